-- Where an offset counts from, and what is left of a file.
use Rattle.std.proofs.Common.{◌≡◌, ◌≢◌, ℕ, zero, suc, ◌-◌, ℤ, Bool, true, false, cond, not, Option, None, Some, refl, sym, ap}
use Rattle.std.specs.Prelude.{nat_abs, option_map}
use Rattle.std.specs.FinMap.{get}
use Rattle.std.proofs.lemmas.Option.{same_Some}
use Rattle.kernel_core.specs.Nodes.{Nodes, NodeContent, File, Directory, Link, Inode, file_at, file_in, in_inode}
use Rattle.kernel_core.specs.declared.error.Errno.TheVariants.{EINVAL}
use Rattle.kernel_model.specs.Came.{done, refused, refused_if}
use Rattle.kernel_model.specs.ContentRows.{file_rest, is_position, seek_from, size_of}
use Rattle.kernel_model.specs.Descriptions.{content_at}
use Rattle.kernel_model.specs.State.{Files}
use Rattle.kernel_model.specs.Transfers.{moved_to}
use Rattle.kernel_model.specs.declared.descriptor.Description.{Description}
use Rattle.native_files.specs.inside.Places.{position_at, seek_to}

pub other-origin : (nodes : Nodes) (description : Description) (node origin : ℕ) → origin ≢ 0 → origin ≢ 1 → origin ≢ 2 → seek_from nodes description node origin ≡ None
other-origin nodes description node zero first second third = absurd (first refl)
other-origin nodes description node (suc zero) first second third = absurd (second refl)
other-origin nodes description node (suc (suc zero)) first second third = absurd (third refl)
other-origin nodes description node (suc (suc (suc more))) first second third = refl

pub ruleset origins = (other-origin)

pub rest-of_size : (position : ℕ) (nodes : Nodes) (number : ℕ) → file_rest position (file_at nodes number) ≡ option_map (λ size. size - position) (size_of (content_at nodes number))
rest-of_size position nodes number = by (get nodes number)
  where
    by_content : (content : NodeContent) → file_rest position (file_in content) ≡ option_map (λ size. size - position) (size_of (Some content))
    by_content (File content) = refl
    by_content (Directory listing) = refl
    by_content (Link target) = refl

    by : (o : Option Inode) → file_rest position (in_inode file_in o) ≡ option_map (λ size. size - position) (size_of (option_map (λ i. i.content) o))
    by None = refl
    by (Some inode) = by_content inode.content

pub ruleset rests = (rest-of_size)

module _ (files : Files) (fd : ℕ) (description : Description) (place : ℤ) where
  pub seek_to-none : None ≡ position_at place → seek_to files fd description place ≡ refused files EINVAL
  seek_to-none is = by (is_position place) is
    where
      by : (b : Bool) → None ≡ cond b (Some (nat_abs place)) None
          → refused_if (not b) EINVAL files (done (moved_to files fd description (nat_abs place)) (nat_abs place)) ≡ refused files EINVAL
      by true is = absurd (cc)
      by false is = refl

  pub seek_to-some : (found : ℕ) → Some found ≡ position_at place → seek_to files fd description place ≡ done (moved_to files fd description found) found
  seek_to-some found is = by (is_position place) is
    where
      by : (b : Bool) → Some found ≡ cond b (Some (nat_abs place)) None
          → refused_if (not b) EINVAL files (done (moved_to files fd description (nat_abs place)) (nat_abs place)) ≡ done (moved_to files fd description found) found
      by true is = ap (λ n. done (moved_to files fd description n) n) (sym (same_Some found (nat_abs place) is))
      by false is = absurd (cc)
