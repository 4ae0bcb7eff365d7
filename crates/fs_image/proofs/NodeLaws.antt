-- Nodes, and the whole file, are read as they were written, and keep the rules of the reading.
use Rattle.std.proofs.Common.{◌≡◌, ℕ, ◌+◌, ◌-◌, ◌^◌, ◌<◌, ◌≤◌, Bool, true, false, not, ◌||◌, List, [], ◌∷◌, ◌++◌, length, get_or, All, Option, Some, None, Ok, refl, sym, ap, subst, ◌∙◌, append_assoc, arith, inl, inr}
use Rattle.std.specs.Prelude.{slice_get, option_map, ◌==◌, nat_lt, ◌&&◌}
use Rattle.std.specs.Int.{w64, cast_signed, cast_unsigned}
use Rattle.std.specs.List.{flat_map, sum_by}
use Rattle.std.specs.List.Sorted.{IsStrictlySortedBy}
use Rattle.std.specs.Ordering.{nat_cmp}
use Rattle.std.specs.Str.{bytes_eq}
use Rattle.std.specs.Cmp.Lexicographic.{bytes_decides}
use Rattle.std.proofs.lemmas.Bool.{cases_Bool, ltb-true, ltb-false, le-ltb, eqb-true, eqb-false, eq-eqb}
use Rattle.std.proofs.lemmas.Int.{of_z-to_z, to_z-of_z}
use Rattle.std.proofs.Math.Facts.{Fits-of_z, sfits_to_z}
use Rattle.std.proofs.lemmas.List.{map_push, map-append, length-append, append-nil, get_or_at}
use Rattle.std.proofs.lemmas.List.Elements.{All-push, All-nil}
use Rattle.std.proofs.lemmas.List.Sums.{sum_by-append, sum_by-cons, sum_by_push}
use Rattle.std.proofs.lemmas.Option.{slice_get-get_or}
use Rattle.std.proofs.lemmas.Map.Keys.{below_from_sorted}
use Rattle.byteorder.specs.Endian.{big_bytes}
use Rattle.kernel_core.specs.declared.tree.Tree.{Tree}
use Rattle.kernel_core.specs.declared.tree.Node.{Node}
use Rattle.kernel_core.specs.declared.tree.Kind.{Kind}
use Rattle.kernel_core.specs.declared.tree.Kind.TheVariants.{File, Dir, Link}
use Rattle.kernel_core.specs.declared.tree.DirEntry.{DirEntry}
use Rattle.kernel_core.specs.ValidTree.{IsKind, IsNode, node_limit, block_limit, entry_limit, greatest_number, greatest_mode, root, is_dir, entries_of, blocks_of, numbers, all_entries, all_blocks}
use Rattle.fs_image.specs.declared.refusal.ImageRule.TheVariants as rule
use Rattle.fs_image.specs.Text.{magic, kind_number, kind_text, head_text, node_text, text_of}
use Rattle.fs_image.specs.Reading.{◌>>=◌, number_at, number_by, bytes_by, many, rises, last_number, follows, breaks_number, breaks_kind, kind_at, node_at, whole, reading_of}
use Rattle.fs_image.specs.inside.Valid.{AreNodes, IsRead}
use Rattle.fs_image.proofs.FieldLaws.{IsBytes, Takes, Takes-then, bind_ok, ok_is, number_takes, number_again, number_kept, number_by_again, bytes_take, bytes_kept, bytes_by_again}
use Rattle.fs_image.proofs.ManyLaws.{many_take, many_again}
use Rattle.fs_image.proofs.KindLaws.{file_takes, file_again, dir_takes, dir_again, link_takes, link_again}
use Rattle.fs_image.proofs.Rising.{or_false, both_false, not_false, not_of_true, last, last_is, sorted_push, sorted_rises, at_middle, positive, not_zero}

-- Kinds

-- what was read as a kind
pub record TakesKind (kind blocks entries : ℕ) (rest : List ℕ) (x : Kind × List ℕ) : Type 0 where
  pub takes : Takes rest (kind_text x.0) x.1
  pub valid : IsKind x.0
  pub number : kind_number x.0 ≡ kind
  pub blocks_fit : blocks + length (blocks_of x.0) ≤ block_limit
  pub entries_fit : entries + length (entries_of x.0) ≤ entry_limit

kind_takes : (kind blocks entries file : ℕ) (rest : List ℕ) (x : Kind × List ℕ) → breaks_kind 2 kind ≡ false → blocks ≤ block_limit → entries ≤ entry_limit → IsBytes rest
    → kind_at kind blocks entries file rest ≡ Ok x → TakesKind kind blocks entries rest x
kind_takes kind blocks entries file rest x known few_blocks few_entries fits e =
    elim (cases_Bool (kind == 1)) [
      | inl t ↦
          let is : kind ≡ 1 = eqb-true _ _ t in
          let f = file_takes blocks file rest x few_blocks fits (rw t at e) in
          let fb : length (blocks_of x.0) ≡ length f.1 = ap (λ k. length (blocks_of k)) f.2 in
          let fe : length (entries_of x.0) ≡ 0 = ap (λ k. length (entries_of k)) f.2 in
          record { takes = f.3; valid = f.4; number = ap kind_number f.2 ∙ sym is; blocks_fit = omega (arith, fb, f.5); entries_fit = omega (arith, fe, few_entries) }
      | inr not_file ↦ elim (cases_Bool (kind == 2)) [
        | inl t ↦
            let is : kind ≡ 2 = eqb-true _ _ t in
            let f = dir_takes entries file rest x few_entries fits (rw (not_file, t) at e) in
            let fb : length (blocks_of x.0) ≡ 0 = ap (λ k. length (blocks_of k)) f.1 in
            let fe : length (entries_of x.0) ≡ length f.0 = ap (λ k. length (entries_of k)) f.1 in
            record { takes = f.2; valid = f.3; number = ap kind_number f.1 ∙ sym is; blocks_fit = omega (arith, fb, few_blocks); entries_fit = omega (arith, fe, f.4) }
        | inr not_dir ↦
            let f = link_takes file rest x fits (rw (not_file, not_dir) at e) in
            let fb : length (blocks_of x.0) ≡ 0 = ap (λ k. length (blocks_of k)) f.1 in
            let fe : length (entries_of x.0) ≡ 0 = ap (λ k. length (entries_of k)) f.1 in
            let low = or_false (nat_lt kind 1) (nat_lt 3 kind || ((2 == root) && not (kind == 2))) known in
            let high = or_false (nat_lt 3 kind) ((2 == root) && not (kind == 2)) low.1 in
            let is : kind ≡ 3 = omega (arith, ltb-false _ _ low.0, ltb-false _ _ high.0, eqb-false kind 1 not_file, eqb-false kind 2 not_dir) in
            record { takes = f.2; valid = f.3; number = ap kind_number f.1 ∙ sym is; blocks_fit = omega (arith, fb, few_blocks); entries_fit = omega (arith, fe, few_entries) }
      ]
    ]

kind_again : (blocks entries file : ℕ) (k : Kind) (rest : List ℕ) → IsKind k → All (λ o. o.node < 256 ^ 8) (entries_of k) → blocks + length (blocks_of k) ≤ block_limit → entries + length (entries_of k) ≤ entry_limit
    → kind_at (kind_number k) blocks entries file (kind_text k ++ rest) ≡ Ok (k, rest)
kind_again blocks entries file (File size kept) rest valid known few_blocks few_entries = file_again blocks file size kept rest valid few_blocks
kind_again blocks entries file (Dir held) rest valid known few_blocks few_entries = dir_again entries file held rest valid known few_entries
kind_again blocks entries file (Link target) rest valid known few_blocks few_entries = link_again file target rest valid

dir_is : (k : Kind) → kind_number k ≡ 2 → is_dir k ≡ true
dir_is (File size kept) e = absurd (omega (arith, e))
dir_is (Dir held) e = refl
dir_is (Link target) e = absurd (omega (arith, e))

pub kind_small : (k : Kind) → kind_number k < 256
kind_small (File size kept) = omega arith
kind_small (Dir held) = omega arith
kind_small (Link target) = omega arith

no_root : (b : Bool) → (b ≡ true → false ≡ true) → (b && true) ≡ false
no_root true h = sym (h refl)
no_root false h = refl

any_number : (b : Bool) → (b && false) ≡ false
any_number true = refl
any_number false = refl

kind_keeps : (number : ℕ) (k : Kind) → (number ≡ root → is_dir k ≡ true) → breaks_kind number (kind_number k) ≡ false
kind_keeps number (File size kept) h = no_root (number == root) (λ t. h (eqb-true _ _ t))
kind_keeps number (Dir held) h = any_number (number == root)
kind_keeps number (Link target) h = no_root (number == root) (λ t. h (eqb-true _ _ t))

-- Nodes

pub no_nodes : AreNodes []
unfolding IsStrictlySortedBy
no_nodes = record { begins = λ n e. absurd cc; rising = tt; each = All-nil _; blocks = omega arith; entries = omega arith }

follows-rises : (o : Option ℕ) (n : ℕ) → follows o n ≡ true → rises o n ≡ true
follows-rises None n e = refl
follows-rises (Some before) n e = e

begins_with : (before : List Node) (x : Node) → ((n : Node) → slice_get before 0 ≡ Some n → (n.number ≡ root) × (is_dir n.kind ≡ true)) → (before ≡ [] → (x.number ≡ root) × (is_dir x.kind ≡ true))
    → (n : Node) → slice_get (before ++ x ∷ []) 0 ≡ Some n → (n.number ≡ root) × (is_dir n.kind ≡ true)
begins_with [] x h first n e =
    let P : Node → Type 0 = λ m. (m.number ≡ root) × (is_dir m.kind ≡ true) in
    let same : x ≡ n = cc in
    subst P same (first refl)
begins_with (b ∷ before) x h first n e = h n e

first_number : (before : List Node) (n : ℕ) → follows (last_number before) n ≡ true → before ≡ [] → n ≡ root
first_number before n e none =
    let P : List Node → Type 0 = λ nodes. follows (last_number nodes) n ≡ true in
    eqb-true _ _ (subst P none e)

root_kind : (number kind : ℕ) → breaks_kind number kind ≡ false → number ≡ root → kind ≡ 2
root_kind number kind e is =
    let low = or_false (nat_lt kind 1) (nat_lt 3 kind || ((number == root) && not (kind == 2))) e in
    let high = or_false (nat_lt 3 kind) ((number == root) && not (kind == 2)) low.1 in
    let t : (number == root) ≡ true = eq-eqb _ _ is in
    eqb-true _ _ (not_false _ (rw t at high.1))

known_kind : (number kind : ℕ) → breaks_kind number kind ≡ false → breaks_kind 2 kind ≡ false
known_kind number kind e =
    let low = or_false (nat_lt kind 1) (nat_lt 3 kind || ((number == root) && not (kind == 2))) e in
    let high = or_false (nat_lt 3 kind) ((number == root) && not (kind == 2)) low.1 in
    both_false _ _ low.0 (both_false _ _ high.0 refl)

above : (o : Option ℕ) (n : ℕ) → follows o n ≡ true → 1 ≤ n
above None n e = omega (arith, eqb-true n 1 e)
above (Some before) n e = omega (arith, ltb-true before n e)

above_none : (before : List Node) (n : ℕ) → follows (last_number before) n ≡ true → 1 ≤ n
above_none before n e = above (last_number before) n e

regroup : (a b c d e f : List ℕ) → ((a ++ (b ++ (c ++ d))) ++ e) ++ f ≡ a ++ (b ++ (c ++ (d ++ (e ++ f))))
regroup a b c d e f = simp append_assoc

as_some : (n : ℕ) (m : Node) (o : Option Node) → o ≡ Some m → rises (option_map (λ (k : Node). k.number) o) n ≡ true → follows (option_map (λ (k : Node). k.number) o) n ≡ true
as_some n m None e up = absurd cc
as_some n m (Some k) e up = up

pub node_takes : (file : ℕ) (before : List Node) (rest : List ℕ) (x : Node × List ℕ) → AreNodes before → IsBytes rest → node_at before file rest ≡ Ok x
    → Takes rest (node_text x.0) x.1 × AreNodes (before ++ x.0 ∷ [])
unfolding node_at
node_takes file before rest x are fits e =
    let a = bind_ok (number_by rule.Number (breaks_number (last_number before)) 8 file rest) (λ number. number_by rule.Kind (breaks_kind number.0) 1 file number.1 >>= λ kind. number_by rule.Mode (λ n. nat_lt greatest_mode n) 2 file kind.1 >>= λ mode. number_at 8 file mode.1 >>= λ mtime. kind_at kind.0 (all_blocks before) (all_entries before) file mtime.1 >>= λ held. Ok (record { number = number.0; mode = mode.0; mtime = cast_signed w64 mtime.0; kind = held.0 }, held.1)) x e in
    let number = a.0 in
    let b = bind_ok (number_by rule.Kind (breaks_kind number.0) 1 file number.1) (λ kind. number_by rule.Mode (λ n. nat_lt greatest_mode n) 2 file kind.1 >>= λ mode. number_at 8 file mode.1 >>= λ mtime. kind_at kind.0 (all_blocks before) (all_entries before) file mtime.1 >>= λ held. Ok (record { number = number.0; mode = mode.0; mtime = cast_signed w64 mtime.0; kind = held.0 }, held.1)) x a.2 in
    let kind = b.0 in
    let c = bind_ok (number_by rule.Mode (λ n. nat_lt greatest_mode n) 2 file kind.1) (λ mode. number_at 8 file mode.1 >>= λ mtime. kind_at kind.0 (all_blocks before) (all_entries before) file mtime.1 >>= λ held. Ok (record { number = number.0; mode = mode.0; mtime = cast_signed w64 mtime.0; kind = held.0 }, held.1)) x b.2 in
    let mode = c.0 in
    let d = bind_ok (number_at 8 file mode.1) (λ mtime. kind_at kind.0 (all_blocks before) (all_entries before) file mtime.1 >>= λ held. Ok (record { number = number.0; mode = mode.0; mtime = cast_signed w64 mtime.0; kind = held.0 }, held.1)) x c.2 in
    let mtime = d.0 in
    let f = bind_ok (kind_at kind.0 (all_blocks before) (all_entries before) file mtime.1) (λ held. Ok (record { number = number.0; mode = mode.0; mtime = cast_signed w64 mtime.0; kind = held.0 }, held.1)) x d.2 in
    let held = f.0 in
    let ka = number_kept rule.Number (breaks_number (last_number before)) 8 file rest number a.1 in
    let ta = number_takes 8 file rest number fits ka.0 in
    let kb = number_kept rule.Kind (breaks_kind number.0) 1 file number.1 kind b.1 in
    let tb = number_takes 1 file number.1 kind ta.0.rest_fits kb.0 in
    let kc = number_kept rule.Mode (λ n. nat_lt greatest_mode n) 2 file kind.1 mode c.1 in
    let tc = number_takes 2 file kind.1 mode tb.0.rest_fits kc.0 in
    let td = number_takes 8 file mode.1 mtime tc.0.rest_fits d.1 in
    let te = kind_takes kind.0 (all_blocks before) (all_entries before) file mtime.1 held (known_kind number.0 kind.0 kb.1) are.blocks are.entries td.0.rest_fits f.1 in
    let made : Node = record { number = number.0; mode = mode.0; mtime = cast_signed w64 mtime.0; kind = held.0 } in
    let time : Takes mode.1 (big_bytes 8 (cast_unsigned w64 (cast_signed w64 mtime.0))) mtime.1 = subst (λ (n : ℕ). Takes mode.1 (big_bytes 8 n) mtime.1) (sym (of_z-to_z w64 mtime.0 td.1)) td.0 in
    let code : Takes number.1 (big_bytes 1 (kind_number held.0)) kind.1 = subst (λ (n : ℕ). Takes number.1 (big_bytes 1 n) kind.1) (sym te.number) tb.0 in
    let head = Takes-then rest (big_bytes 8 number.0) number.1 (big_bytes 1 (kind_number held.0) ++ (big_bytes 2 mode.0 ++ big_bytes 8 (cast_unsigned w64 (cast_signed w64 mtime.0)))) mtime.1 ta.0
    (Takes-then number.1 (big_bytes 1 (kind_number held.0)) kind.1 (big_bytes 2 mode.0 ++ big_bytes 8 (cast_unsigned w64 (cast_signed w64 mtime.0))) mtime.1 code
    (Takes-then kind.1 (big_bytes 2 mode.0) mode.1 (big_bytes 8 (cast_unsigned w64 (cast_signed w64 mtime.0))) mtime.1 tc.0 time)) in
    let all : Takes rest (node_text made) held.1 = Takes-then rest (head_text made) mtime.1 (kind_text held.0) held.1 head te.takes in
    let tests = or_false (not (follows (last_number before) number.0)) (nat_lt greatest_number number.0) ka.1 in
    let following : follows (last_number before) number.0 ≡ true = not_false _ tests.0 in
    let up : rises (last (numbers before)) number.0 ≡ true = ap (λ l. rises l number.0) (sym (last_is (λ (n : Node). n.number) before)) ∙ follows-rises (last_number before) number.0 following in
    let first : before ≡ [] → (number.0 ≡ root) × (is_dir held.0 ≡ true) = λ none.
    let is_root = first_number before number.0 following none in
    (is_root, dir_is held.0 (te.number ∙ root_kind number.0 kind.0 kb.1 is_root)) in
    let low : 1 ≤ number.0 = above_none before number.0 following in
    let valid : IsNode made = record { low = low; high = ltb-false _ _ tests.1; mode = ltb-false _ _ kc.1; mtime = sfits_to_z {w = w64} {n = mtime.0} (record { fits = td.1 }); kind = te.valid } in
    let P : Node × List ℕ → Type 0 = λ y. Takes rest (node_text y.0) y.1 × AreNodes (before ++ y.0 ∷ []) in
    subst P (ok_is (made, held.1) x f.2) (
      all,
      record {
        begins = begins_with before made are.begins first;
        rising = rw (map_push (λ (n : Node). n.number) before made) (sorted_push (numbers before) number.0 are.rising up);
        each = All-push IsNode before made are.each valid;
        blocks = rw (sum_by_push (λ (n : Node). length (blocks_of n.kind)) before made) te.blocks_fit;
        entries = rw (sum_by_push (λ (n : Node). length (entries_of n.kind)) before made) te.entries_fit;
      },
    )

-- a node that follows those before it
follows_from : (before : List Node) (n : ℕ) → rises (last_number before) n ≡ true → (before ≡ [] → n ≡ root) → follows (last_number before) n ≡ true
follows_from [] n up first = eq-eqb _ _ (first refl)
follows_from (b ∷ before) n up first =
    let e = slice_get-get_or (b ∷ before) (length (b ∷ before) - 1) b (omega arith) in
    let same : (o : Option Node) → o ≡ Some (get_or (b ∷ before) (length (b ∷ before) - 1) b) → rises (option_map (λ (m : Node). m.number) o) n ≡ true → follows (option_map (λ (m : Node). m.number) o) n ≡ true = as_some n (get_or (b ∷ before) (length (b ∷ before) - 1) b) in
    same (slice_get (b ∷ before) (length (b ∷ before) - 1)) e up

-- the root is the first, and the others are greater
pub root_first : (nodes before : List Node) (x : Node) (after : List Node) → AreNodes nodes → nodes ≡ before ++ x ∷ after → x.number ≡ root → is_dir x.kind ≡ true
root_first nodes [] x after are e is = (are.begins x (ap (λ (ns : List Node). slice_get ns 0) e)).1
root_first nodes (b ∷ before) x after are e is =
    let first = (are.begins b (ap (λ (ns : List Node). slice_get ns 0) e)).0 in
    let parts : numbers nodes ≡ numbers (b ∷ before) ++ x.number ∷ numbers after = ap numbers e ∙ map-append (λ (n : Node). n.number) (b ∷ before) (x ∷ after) in
    let P : List ℕ → Type 0 = IsStrictlySortedBy nat_cmp in
    let n = length (numbers (b ∷ before)) in
    let below = below_from_sorted (numbers (b ∷ before) ++ x.number ∷ numbers after) 0 n 0 (subst P parts are.rising) (omega arith) (omega (arith, length-append (numbers (b ∷ before)) (x.number ∷ numbers after))) in
    let at = get_or_at (numbers (b ∷ before)) x.number (numbers after) 0 n refl in
    absurd (omega (arith, first, is, at, below))

pub node_again : (file : ℕ) (nodes before : List Node) (x : Node) (after : List Node) (rest : List ℕ) → AreNodes nodes → All (λ (n : Node). All (λ (o : DirEntry). o.node < 256 ^ 8) (entries_of n.kind)) nodes → nodes ≡ before ++ x ∷ after
    → node_at before file (node_text x ++ rest) ≡ Ok (x, rest)
unfolding node_at
node_again file nodes before x after rest are known e =
    let valid : IsNode x = at_middle IsNode nodes before x after are.each e in
    let parts : numbers nodes ≡ numbers before ++ x.number ∷ numbers after = ap numbers e ∙ map-append (λ (n : Node). n.number) before (x ∷ after) in
    let P : List ℕ → Type 0 = IsStrictlySortedBy nat_cmp in
    let up : rises (last_number before) x.number ≡ true = ap (λ l. rises l x.number) (last_is (λ (n : Node). n.number) before) ∙ sorted_rises (numbers before) x.number (numbers after) (subst P parts are.rising) in
    let first : before ≡ [] → x.number ≡ root = λ none. (are.begins x (ap (λ (ns : List Node). slice_get ns 0) (e ∙ ap (λ (ns : List Node). ns ++ x ∷ after) none))).0 in
    let number_keeps : breaks_number (last_number before) x.number ≡ false = both_false _ _ (not_of_true _ (follows_from before x.number up first)) (le-ltb _ _ valid.high) in
    let kind_kept : breaks_kind x.number (kind_number x.kind) ≡ false = kind_keeps x.number x.kind (root_first nodes before x after are e) in
    let time = cast_unsigned w64 x.mtime in
    let time_fits : time < 256 ^ 8 = (Fits-of_z {w = w64} {z = x.mtime} valid.mtime).fits in
    let time_text = big_bytes 8 time in
    let text = kind_text x.kind in
    let regrouped : node_text x ++ rest ≡ big_bytes 8 x.number ++ (big_bytes 1 (kind_number x.kind) ++ (big_bytes 2 x.mode ++ (time_text ++ (text ++ rest)))) =
    regroup (big_bytes 8 x.number) (big_bytes 1 (kind_number x.kind)) (big_bytes 2 x.mode) time_text text rest in
    let all_is : (f : Node → ℕ) → sum_by f nodes ≡ sum_by f before + (f x + sum_by f after) = λ f. ap (sum_by f) e ∙ (sum_by-append f before (x ∷ after) ∙ ap (λ n. sum_by f before + n) (sum_by-cons f x after)) in
    let blocks_fit : all_blocks before + length (blocks_of x.kind) ≤ block_limit = omega (arith, are.blocks, all_is (λ (n : Node). length (blocks_of n.kind))) in
    let entries_fit : all_entries before + length (entries_of x.kind) ≤ entry_limit = omega (arith, are.entries, all_is (λ (n : Node). length (entries_of n.kind))) in
    let one = number_by_again rule.Number (breaks_number (last_number before)) 8 file x.number (big_bytes 1 (kind_number x.kind) ++ (big_bytes 2 x.mode ++ (time_text ++ (text ++ rest)))) (omega (arith, valid.high)) number_keeps in
    let two = number_by_again rule.Kind (breaks_kind x.number) 1 file (kind_number x.kind) (big_bytes 2 x.mode ++ (time_text ++ (text ++ rest))) (kind_small x.kind) kind_kept in
    let three = number_by_again rule.Mode (λ n. nat_lt greatest_mode n) 2 file x.mode (time_text ++ (text ++ rest)) (omega (arith, valid.mode)) (le-ltb _ _ valid.mode) in
    let four = number_again 8 file time (text ++ rest) time_fits in
    let five = kind_again (all_blocks before) (all_entries before) file x.kind rest valid.kind (at_middle (λ (n : Node). All (λ (o : DirEntry). o.node < 256 ^ 8) (entries_of n.kind)) nodes before x after known e) blocks_fit entries_fit in
    let back : cast_signed w64 time ≡ x.mtime = to_z-of_z w64 x.mtime valid.mtime in
    ap (node_at before file) regrouped ∙ rw (one, two, three, four, five) (ap (λ t. Ok (record x { mtime = t }, rest)) back)

-- The whole file

whole_ok : (file : ℕ) (nodes : List Node) (rest : List ℕ) (tree : Tree) → whole file nodes rest ≡ Ok tree → (rest ≡ []) × (tree.nodes ≡ nodes)
whole_ok file nodes [] tree e = (refl, ap (λ (t : Tree). t.nodes) (sym (ok_is (record { nodes = nodes }) tree e)))
whole_ok file nodes (byte ∷ rest) tree e = absurd cc

pub reading_takes : (bytes : List ℕ) (tree : Tree) → IsBytes bytes → reading_of bytes ≡ Ok tree → (bytes ≡ text_of tree) × IsRead tree
unfolding reading_of text_of
reading_takes bytes tree fits e =
    let file = length bytes in
    let a = bind_ok (bytes_by rule.Magic (λ found. not (bytes_eq found magic)) 8 file bytes) (λ front. number_by rule.Count (λ n. (n == 0) || nat_lt node_limit n) 4 file front.1 >>= λ count. many node_at count.0 [] file count.1 >>= λ nodes. whole file nodes.0 nodes.1) tree e in
    let front = a.0 in
    let b = bind_ok (number_by rule.Count (λ n. (n == 0) || nat_lt node_limit n) 4 file front.1) (λ count. many node_at count.0 [] file count.1 >>= λ nodes. whole file nodes.0 nodes.1) tree a.2 in
    let count = b.0 in
    let c = bind_ok (many node_at count.0 [] file count.1) (λ nodes. whole file nodes.0 nodes.1) tree b.2 in
    let nodes = c.0 in
    let ka = bytes_kept rule.Magic (λ found. not (bytes_eq found magic)) 8 file bytes front a.1 in
    let ta = bytes_take 8 file bytes front fits ka.0 in
    let same : front.0 ≡ magic = (bytes_decides front.0 magic).0 (not_false _ ka.1) in
    let kb = number_kept rule.Count (λ n. (n == 0) || nat_lt node_limit n) 4 file front.1 count b.1 in
    let tb = number_takes 4 file front.1 count ta.0.rest_fits kb.0 in
    let tests = or_false (count.0 == 0) (nat_lt node_limit count.0) kb.1 in
    let tc = many_take node_at node_text AreNodes file (λ before left y are f got. node_takes file before left y are f got) count.0 [] count.1 nodes no_nodes tb.0.rest_fits c.1 in
    let end = whole_ok file nodes.0 nodes.1 tree c.2 in
    let len : length tree.nodes ≡ count.0 = ap length end.1 ∙ (ap length tc.0.is ∙ tc.0.len) in
    let added : tc.0.added ≡ tree.nodes = sym (end.1 ∙ tc.0.is) in
    let third : Takes count.1 (flat_map node_text tree.nodes) nodes.1 = subst (λ (ns : List Node). Takes count.1 (flat_map node_text ns) nodes.1) added tc.0.takes in
    let second : Takes front.1 (big_bytes 4 (length tree.nodes)) count.1 = subst (λ (n : ℕ). Takes front.1 (big_bytes 4 n) count.1) (sym len) tb.0 in
    let first : Takes bytes magic front.1 = subst (λ (m : List ℕ). Takes bytes m front.1) same ta.0 in
    let all = Takes-then bytes magic front.1 (big_bytes 4 (length tree.nodes) ++ flat_map node_text tree.nodes) nodes.1 first
    (Takes-then front.1 (big_bytes 4 (length tree.nodes)) count.1 (flat_map node_text tree.nodes) nodes.1 second third) in
    let text = magic ++ (big_bytes 4 (length tree.nodes) ++ flat_map node_text tree.nodes) in (
      all.parts ∙ (ap (λ (r : List ℕ). text ++ r) end.0 ∙ append-nil text),
      record {
        nodes = subst AreNodes (sym end.1) tc.1;
        some = omega (arith, len, positive count.0 tests.0);
        few = omega (arith, len, ltb-false _ _ tests.1);
      },
    )

pub reading_again : (tree : Tree) → IsRead tree → All (λ (n : Node). All (λ (o : DirEntry). o.node < 256 ^ 8) (entries_of n.kind)) tree.nodes → reading_of (text_of tree) ≡ Ok tree
unfolding reading_of text_of
reading_again tree read known =
    let nodes = tree.nodes in
    let text = flat_map node_text nodes in
    let regrouped : text_of tree ≡ magic ++ (big_bytes 4 (length nodes) ++ (text ++ [])) = ap (λ (t : List ℕ). magic ++ (big_bytes 4 (length nodes) ++ t)) (sym (append-nil text)) in
    let file = length (magic ++ (big_bytes 4 (length nodes) ++ (text ++ []))) in
    let one = bytes_by_again rule.Magic (λ found. not (bytes_eq found magic)) 8 file magic (big_bytes 4 (length nodes) ++ (text ++ [])) refl refl in
    let two = number_by_again rule.Count (λ n. (n == 0) || nat_lt node_limit n) 4 file (length nodes) (text ++ []) (omega (arith, read.few)) (both_false _ _ (not_zero (length nodes) read.some) (le-ltb _ _ read.few)) in
    let three = many_again node_at node_text file nodes (λ before x after left e. node_again file nodes before x after left read.nodes known e) [] nodes [] refl in
    ap reading_of regrouped ∙ rw (one, two, three) refl
