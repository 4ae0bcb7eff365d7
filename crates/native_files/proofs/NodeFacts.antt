-- What is known of a node of a file system.
use Rattle.std.proofs.Common.{◌≡◌, ℕ, zero, suc, ◌+◌, ◌<◌, ◌≤◌, ◌^◌, Bool, true, false, cond, Option, Some, None, refl, sym, ap, subst, arith, IfSome}
use Rattle.std.specs.FinMap.{get}
use Rattle.std.specs.Prelude.{◌==◌, if◌then◌else◌, nat_le, nat_lt, option_map}
use Rattle.std.proofs.lemmas.Bool.Decides.{nat_tests}
use Rattle.std.proofs.lemmas.Option.{same_Some}
use Rattle.kernel_core.specs.FileContent.{Blocks, FileContent, greatest_size, longest_write, new_blocks, readable}
use Rattle.kernel_core.specs.FileSystem.{IsFileSystem, IsLiveContent, IsTime}
use Rattle.kernel_core.specs.NodeCalls.{content_size, write_length, write_refusal}
use Rattle.kernel_core.specs.Nodes.{Nodes, Inode, NodeContent, File, Directory, Link, file_in, in_inode, file_at}
use Rattle.kernel_core.specs.Queries.{FileKind, kind_at, kind_of}
use Rattle.kernel_core.specs.Totals.{spare_blocks}
use Rattle.kernel_core.specs.declared.error.Errno.TheVariants.{EFBIG, ENOSPC}
use Rattle.kernel_model.specs.ContentRows.{node_status}
use Rattle.native_files.specs.Answers.{IsStatus, status_told}
use Rattle.native_files.specs.declared.progress.Status.{Status}

longest_most : (blocks : Blocks) (at count spare : ℕ) → longest_write blocks at count spare ≤ count
unfolding longest_write
longest_most blocks at zero spare = omega arith
longest_most blocks at (suc count) spare = by (nat_le (new_blocks blocks at (suc count)) spare) (longest_most blocks at count spare)
  where
    by : (b : Bool) → longest_write blocks at count spare ≤ count → cond b (suc count) (longest_write blocks at count spare) ≤ suc count
    by true less = omega arith
    by false less = omega (arith, less)

module _ (nodes : Nodes) (valid : IsFileSystem nodes) (number : ℕ) where
  file_small : (links : ℕ) (content : NodeContent) → IsLiveContent nodes number links content → IfSome (file_in content) (λ c. c.size ≤ greatest_size)
  file_small links (File content) is = is.0.small
  file_small links (Directory listing) is = tt
  file_small links (Link target) is = tt

  pub file-small : IfSome (file_at nodes number) (λ content. content.size ≤ greatest_size)
  file-small = by (get nodes number) refl
    where
      by : (o : Option Inode) → get nodes number ≡ o → IfSome (in_inode file_in o) (λ content. content.size ≤ greatest_size)
      by None at = tt
      by (Some inode) at = file_small inode.links inode.content (valid.each number inode at).content

  -- a read ends where a number of 64 bits does
  pub read-end : kind_at nodes number ≡ Some FileKind → (at most count : ℕ) → at < 2 ^ 64 → IfSome (file_at nodes number) (λ content. count ≡ readable content at most) → at + count < 2 ^ 64
  read-end kind at most count fits is = by (get nodes number) kind file-small is
    where
      by_content : (content : NodeContent) → kind_of content ≡ FileKind → IfSome (file_in content) (λ c. c.size ≤ greatest_size) → IfSome (file_in content) (λ c. count ≡ readable c at most) → at + count < 2 ^ 64
      by_content (File content) kind small is = omega (arith, small, fits, is)
      by_content (Directory listing) kind small is = absurd (cc)
      by_content (Link target) kind small is = absurd (cc)

      by : (o : Option Inode) → option_map (λ i. kind_of i.content) o ≡ Some FileKind → IfSome (in_inode file_in o) (λ c. c.size ≤ greatest_size)
          → IfSome (in_inode file_in o) (λ c. count ≡ readable c at most) → at + count < 2 ^ 64
      by None kind small is = absurd (let bad : None ≡ Some FileKind = kind in cc)
      by (Some inode) kind small is = by_content inode.content (same_Some (kind_of inode.content) FileKind kind) small is

  -- a write that is not refused ends there too
  write_end : (content : FileContent) (at length : ℕ) → at < 2 ^ 64 → write_refusal nodes content at length ≡ None → at + write_length nodes content at length < 2 ^ 64
  unfolding longest_write
  write_end content at zero fits allowed = omega (arith, fits)
  write_end content at (suc n) fits allowed =
      by (nat_lt greatest_size (at + suc n)) refl allowed
    where
      by : (b : Bool) → nat_lt greatest_size (at + suc n) ≡ b → cond b (Some EFBIG) (if write_length nodes content at (suc n) == 0 then Some ENOSPC else None) ≡ None
          → at + write_length nodes content at (suc n) < 2 ^ 64
      by true e allowed = absurd (cc)
      by false e allowed =
          let least = longest_most content.blocks at (suc n) (spare_blocks nodes) in
          let low : at + suc n ≤ greatest_size = grind (arith, nat_tests) in
          omega (arith, least, low)

  pub write-end : kind_at nodes number ≡ Some FileKind → (at count length : ℕ) → at < 2 ^ 64
      → IfSome (file_at nodes number) (λ content. write_refusal nodes content at length ≡ None) → IfSome (file_at nodes number) (λ content. count ≡ write_length nodes content at length)
      → at + count < 2 ^ 64
  write-end kind at count length fits allowed is = by (get nodes number) kind allowed is
    where
      by_content : (content : NodeContent) → kind_of content ≡ FileKind → IfSome (file_in content) (λ c. write_refusal nodes c at length ≡ None)
          → IfSome (file_in content) (λ c. count ≡ write_length nodes c at length) → at + count < 2 ^ 64
      by_content (File content) kind allowed is = subst (λ n. at + n < 2 ^ 64) (sym is) (write_end content at length fits allowed)
      by_content (Directory listing) kind allowed is = absurd (cc)
      by_content (Link target) kind allowed is = absurd (cc)

      by : (o : Option Inode) → option_map (λ i. kind_of i.content) o ≡ Some FileKind → IfSome (in_inode file_in o) (λ c. write_refusal nodes c at length ≡ None)
          → IfSome (in_inode file_in o) (λ c. count ≡ write_length nodes c at length) → at + count < 2 ^ 64
      by None kind allowed is = absurd (let bad : None ≡ Some FileKind = kind in cc)
      by (Some inode) kind allowed is = by_content inode.content (same_Some (kind_of inode.content) FileKind kind) allowed is

  -- and takes no more bytes than there are
  pub write-within : kind_at nodes number ≡ Some FileKind → (at count length : ℕ) → IfSome (file_at nodes number) (λ content. count ≡ write_length nodes content at length) → count ≤ length
  write-within kind at count length is = by (get nodes number) kind is
    where
      by_content : (content : NodeContent) → kind_of content ≡ FileKind → IfSome (file_in content) (λ c. count ≡ write_length nodes c at length) → count ≤ length
      by_content (File content) kind is = let least = longest_most content.blocks at length (spare_blocks nodes) in omega (arith, is, least)
      by_content (Directory listing) kind is = absurd (cc)
      by_content (Link target) kind is = absurd (cc)

      by : (o : Option Inode) → option_map (λ i. kind_of i.content) o ≡ Some FileKind → IfSome (in_inode file_in o) (λ c. count ≡ write_length nodes c at length) → count ≤ length
      by None kind is = absurd (let bad : None ≡ Some FileKind = kind in cc)
      by (Some inode) kind is = by_content inode.content (same_Some (kind_of inode.content) FileKind kind) is

  size_small : (links : ℕ) (content : NodeContent) → IsLiveContent nodes number links content → content_size content ≤ greatest_size
  size_small links (File content) is = is.0.small
  size_small links (Directory listing) is = omega arith
  size_small links (Link target) is = omega (arith, is.0.short)

  module _ (inode : Inode) (at : get nodes number ≡ Some inode) where
    pub size-small : content_size inode.content ≤ greatest_size
    size-small = size_small inode.links inode.content (valid.each number inode at).content

    pub IsStatus-node : (status : Status) → status_told status ≡ node_status number inode → IsStatus status
    IsStatus-node status is =
        let live = valid.each number inode at in
        record {
          number = subst (λ n. n ≤ 9223372036854775807) (sym (ap (λ s. s.number) is)) live.high;
          size = subst (λ n. n ≤ greatest_size) (sym (ap (λ s. s.size) is)) size-small;
          access = subst (λ t. IsTime t) (sym (ap (λ s. s.access) is)) live.access;
          modified = subst (λ t. IsTime t) (sym (ap (λ s. s.modified) is)) live.modified;
          changed = subst (λ t. IsTime t) (sym (ap (λ s. s.changed) is)) live.changed;
        }
