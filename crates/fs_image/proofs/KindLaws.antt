-- What stands behind a node's front is read as it was written, and is valid.
use Rattle.std.proofs.Common.{◌≡◌, ℕ, zero, suc, ◌+◌, ◌-◌, ◌*◌, ◌^◌, ◌<◌, ◌≤◌, true, false, not, ◌||◌, List, [], ◌∷◌, ◌++◌, length, map, get_or, drop, All, Ok, refl, sym, ap, subst, ◌∙◌, append_assoc, arith}
use Rattle.std.specs.Prelude.{slice_get, option_map, ◌==◌, nat_lt}
use Rattle.std.specs.List.{list_any, flat_map, IsDistinct}
use Rattle.std.specs.List.Sorted.{IsStrictlySortedBy}
use Rattle.std.specs.Ordering.{nat_cmp}
use Rattle.std.specs.Str.{bytes_eq}
use Rattle.std.specs.Cmp.Lexicographic.{nat_list_eq_equiv}
use Rattle.std.proofs.lemmas.Bool.{ltb-true, ltb-false, lt-ltb, le-ltb, eqb-true}
use Rattle.std.proofs.lemmas.List.{get_or-drop, map_push, map-append}
use Rattle.std.proofs.lemmas.List.Elements.{All-push, All-nil}
use Rattle.std.proofs.lemmas.Map.Keys.{IsDistinct-push}
use Rattle.byteorder.specs.Endian.{big_bytes}
use Rattle.kernel_core.specs.declared.tree.Kind.{Kind}
use Rattle.kernel_core.specs.declared.tree.Kind.TheVariants.{File, Dir, Link}
use Rattle.kernel_core.specs.declared.tree.Block.{Block}
use Rattle.kernel_core.specs.declared.tree.DirEntry.{DirEntry}
use Rattle.kernel_core.specs.FileContent.{IsBlock, block_size, greatest_size}
use Rattle.kernel_core.specs.ValidTree.{IsName, IsEntry, AreEntries, AreBlocks, IsTarget, IsKind, block_limit, entry_limit, greatest_cookie, is_dots, is_no_name_byte}
use Rattle.fs_image.specs.declared.refusal.ImageRule.TheVariants as rule
use Rattle.fs_image.specs.Text.{block_text, entry_text, kind_text}
use Rattle.fs_image.specs.Reading.{◌>>=◌, number_at, number_by, bytes_by, many, rises, last_index, breaks_index, breaks_tail, block_at, file_at, last_cookie, breaks_cookie, is_taken, breaks_name, entry_at, dir_at, link_at}
use Rattle.fs_image.proofs.FieldLaws.{IsBytes, Takes, Takes-then, bind_ok, ok_is, number_takes, number_again, number_kept, number_by_again, bytes_take, bytes_kept, bytes_by_again}
use Rattle.fs_image.proofs.ManyLaws.{many_take, many_again}
use Rattle.fs_image.proofs.Rising.{or_false, both_false, not_false, not_of_true, last, last_is, sorted_push, sorted_rises, distinct_new, at_middle, positive, not_zero}

-- Blocks

-- bytes of which none is set
none_set : (bytes : List ℕ) → list_any (λ byte. not (byte == 0)) bytes ≡ false → (k : ℕ) → get_or bytes k 0 ≡ 0
none_set [] none k = refl
none_set (byte ∷ bytes) none zero = eqb-true byte 0 (not_false (byte == 0) (or_false (not (byte == 0)) (list_any (λ b. not (b == 0)) bytes) none).0)
none_set (byte ∷ bytes) none (suc k) = none_set bytes (or_false (not (byte == 0)) (list_any (λ b. not (b == 0)) bytes) none).1 k

all_zero : (bytes : List ℕ) → ((k : ℕ) → get_or bytes k 0 ≡ 0) → list_any (λ byte. not (byte == 0)) bytes ≡ false
all_zero [] zeros = refl
all_zero (byte ∷ bytes) zeros =
    let first : byte ≡ 0 = zeros 0 in
    both_false (not (byte == 0)) (list_any (λ b. not (b == 0)) bytes) (ap (λ b. not (b == 0)) first) (all_zero bytes (λ k. zeros (suc k)))

tail_zero : (size index : ℕ) (bytes : List ℕ) → breaks_tail size index bytes ≡ false → (k : ℕ) → size ≤ index * block_size + k → get_or bytes k 0 ≡ 0
tail_zero size index bytes none k past =
    let n = size - index * block_size in
    let at : n + (k - n) ≡ k = omega arith in
    let e = none_set (drop n bytes) none (k - n) in
    sym (get_or-drop n bytes (k - n) 0 ∙ ap (λ i. get_or bytes i 0) at) ∙ e

tail_kept : (size index : ℕ) (bytes : List ℕ) → ((k : ℕ) → size ≤ index * block_size + k → get_or bytes k 0 ≡ 0) → breaks_tail size index bytes ≡ false
tail_kept size index bytes zeros =
    let n = size - index * block_size in
    all_zero (drop n bytes) (λ k. get_or-drop n bytes k 0 ∙ zeros (n + k) (omega arith))

block_takes : (size file : ℕ) (before : List Block) (rest : List ℕ) (x : Block × List ℕ) → AreBlocks size before → IsBytes rest → block_at size before file rest ≡ Ok x
    → Takes rest (block_text x.0) x.1 × AreBlocks size (before ++ x.0 ∷ [])
unfolding block_at
block_takes size file before rest x are fits e =
    let a = bind_ok (number_by rule.Size (breaks_index size (last_index before)) 4 file rest) (λ index. bytes_by rule.Tail (breaks_tail size index.0) block_size file index.1 >>= λ bytes. Ok (record { index = index.0; bytes = bytes.0 }, bytes.1)) x e in
    let index = a.0 in
    let b = bind_ok (bytes_by rule.Tail (breaks_tail size index.0) block_size file index.1) (λ bytes. Ok (record { index = index.0; bytes = bytes.0 }, bytes.1)) x a.2 in
    let bytes = b.0 in
    let ka = number_kept rule.Size (breaks_index size (last_index before)) 4 file rest index a.1 in
    let ta = number_takes 4 file rest index fits ka.0 in
    let kb = bytes_kept rule.Tail (breaks_tail size index.0) block_size file index.1 bytes b.1 in
    let tb = bytes_take block_size file index.1 bytes ta.0.rest_fits kb.0 in
    let both = Takes-then rest (big_bytes 4 index.0) index.1 bytes.0 bytes.1 ta.0 tb.0 in
    let tests = or_false (not (rises (last_index before) index.0)) (not (nat_lt (index.0 * block_size) size)) ka.1 in
    let up : rises (last (map (λ (o : Block). o.index) before)) index.0 ≡ true = ap (λ l. rises l index.0) (sym (last_is (λ (o : Block). o.index) before)) ∙ not_false _ tests.0 in
    let made : Block = record { index = index.0; bytes = bytes.0 } in
    let valid : IsBlock size index.0 bytes.0 = record {
      below = ltb-true _ _ (not_false _ tests.1);
      whole = tb.1;
      are_bytes = tb.2;
      tail = tail_zero size index.0 bytes.0 kb.1;
    } in
    let P : Block × List ℕ → Type 0 = λ y. Takes rest (block_text y.0) y.1 × AreBlocks size (before ++ y.0 ∷ []) in
    subst P (ok_is (made, bytes.1) x b.2) (
      both,
      record {
        each = All-push (λ (o : Block). IsBlock size o.index o.bytes) before made are.each valid;
        rising = rw (map_push (λ (o : Block). o.index) before made) (sorted_push (map (λ (o : Block). o.index) before) index.0 are.rising up);
      },
    )

-- the test of a rise, from the order of all
rises_before : {A : Type 0} (f : A → ℕ) (whole before : List A) (x : A) (after : List A) → IsStrictlySortedBy nat_cmp (map f whole) → whole ≡ before ++ x ∷ after → rises (option_map f (slice_get before (length before - 1))) (f x) ≡ true
rises_before f whole before x after sorted e =
    let P : List ℕ → Type 0 = IsStrictlySortedBy nat_cmp in
    let parts : map f whole ≡ map f before ++ f x ∷ map f after = ap (map f) e ∙ map-append f before (x ∷ after) in
    ap (λ l. rises l (f x)) (last_is f before) ∙ sorted_rises (map f before) (f x) (map f after) (subst P parts sorted)

block_again : (size file : ℕ) (whole before : List Block) (x : Block) (after : List Block) (rest : List ℕ) → size ≤ greatest_size → AreBlocks size whole → whole ≡ before ++ x ∷ after
    → block_at size before file (block_text x ++ rest) ≡ Ok (x, rest)
unfolding block_at
block_again size file whole before x after rest small are e =
    let valid : IsBlock size x.index x.bytes = at_middle (λ (o : Block). IsBlock size o.index o.bytes) whole before x after are.each e in
    let up = rises_before (λ (o : Block). o.index) whole before x after are.rising e in
    let keeps : breaks_index size (last_index before) x.index ≡ false = both_false _ _ (not_of_true _ up) (not_of_true _ (lt-ltb _ _ valid.below)) in
    let fits : x.index < 256 ^ 4 = omega (arith, valid.below, small) in
    let regrouped : block_text x ++ rest ≡ big_bytes 4 x.index ++ (x.bytes ++ rest) = append_assoc (big_bytes 4 x.index) x.bytes rest in
    let first = number_by_again rule.Size (breaks_index size (last_index before)) 4 file x.index (x.bytes ++ rest) fits keeps in
    let second = bytes_by_again rule.Tail (breaks_tail size x.index) block_size file x.bytes rest valid.whole (tail_kept size x.index x.bytes valid.tail) in
    ap (block_at size before file) regrouped ∙ rw (first, second) refl

-- Files

pub file_takes : (blocks file : ℕ) (rest : List ℕ) (x : Kind × List ℕ) → blocks ≤ block_limit → IsBytes rest → file_at blocks file rest ≡ Ok x
    → (size : ℕ) × (kept : List Block) × (x.0 ≡ File size kept) × Takes rest (kind_text x.0) x.1 × IsKind x.0 × (blocks + length kept ≤ block_limit)
unfolding file_at IsStrictlySortedBy
file_takes blocks file rest x few fits e =
    let a = bind_ok (number_by rule.Size (λ n. nat_lt greatest_size n) 8 file rest) (λ size. number_by rule.Limit (λ n. nat_lt block_limit (blocks + n)) 4 file size.1 >>= λ count. many (block_at size.0) count.0 [] file count.1 >>= λ kept. Ok (File size.0 kept.0, kept.1)) x e in
    let size = a.0 in
    let b = bind_ok (number_by rule.Limit (λ n. nat_lt block_limit (blocks + n)) 4 file size.1) (λ count. many (block_at size.0) count.0 [] file count.1 >>= λ kept. Ok (File size.0 kept.0, kept.1)) x a.2 in
    let count = b.0 in
    let c = bind_ok (many (block_at size.0) count.0 [] file count.1) (λ kept. Ok (File size.0 kept.0, kept.1)) x b.2 in
    let kept = c.0 in
    let ka = number_kept rule.Size (λ n. nat_lt greatest_size n) 8 file rest size a.1 in
    let ta = number_takes 8 file rest size fits ka.0 in
    let kb = number_kept rule.Limit (λ n. nat_lt block_limit (blocks + n)) 4 file size.1 count b.1 in
    let tb = number_takes 4 file size.1 count ta.0.rest_fits kb.0 in
    let none : AreBlocks size.0 [] = record { each = All-nil _; rising = tt } in
    let tc = many_take (block_at size.0) block_text (AreBlocks size.0) file (λ before left y are f got. block_takes size.0 file before left y are f got) count.0 [] count.1 kept none tb.0.rest_fits c.1 in
    let len : length kept.0 ≡ count.0 = ap length tc.0.is ∙ tc.0.len in
    let third : Takes count.1 (flat_map block_text kept.0) kept.1 = subst (λ (ks : List Block). Takes count.1 (flat_map block_text ks) kept.1) (sym tc.0.is) tc.0.takes in
    let second : Takes size.1 (big_bytes 4 (length kept.0)) count.1 = subst (λ (n : ℕ). Takes size.1 (big_bytes 4 n) count.1) (sym len) tb.0 in
    let both = Takes-then size.1 (big_bytes 4 (length kept.0)) count.1 (flat_map block_text kept.0) kept.1 second third in
    let all = Takes-then rest (big_bytes 8 size.0) size.1 (big_bytes 4 (length kept.0) ++ flat_map block_text kept.0) kept.1 ta.0 both in
    let small : size.0 ≤ greatest_size = ltb-false _ _ ka.1 in
    let limit : blocks + length kept.0 ≤ block_limit = omega (arith, len, ltb-false _ _ kb.1) in
    let made : Kind × List ℕ = (File size.0 kept.0, kept.1) in
    let P : Kind × List ℕ → Type 0 = λ y. (s : ℕ) × (k : List Block) × (y.0 ≡ File s k) × Takes rest (kind_text y.0) y.1 × IsKind y.0 × (blocks + length k ≤ block_limit) in
    subst P (ok_is made x c.2) (size.0, kept.0, refl, all, (small, tc.1), limit)

pub file_again : (blocks file size : ℕ) (kept : List Block) (rest : List ℕ) → IsKind (File size kept) → blocks + length kept ≤ block_limit
    → file_at blocks file (kind_text (File size kept) ++ rest) ≡ Ok (File size kept, rest)
unfolding file_at
file_again blocks file size kept rest valid limit =
    let small : size ≤ greatest_size = valid.0 in
    let blocks_text = flat_map block_text kept in
    let regrouped : kind_text (File size kept) ++ rest ≡ big_bytes 8 size ++ (big_bytes 4 (length kept) ++ (blocks_text ++ rest)) =
    append_assoc (big_bytes 8 size) (big_bytes 4 (length kept) ++ blocks_text) rest ∙ ap (λ (t : List ℕ). big_bytes 8 size ++ t) (append_assoc (big_bytes 4 (length kept)) blocks_text rest) in
    let first = number_by_again rule.Size (λ n. nat_lt greatest_size n) 8 file size (big_bytes 4 (length kept) ++ (blocks_text ++ rest)) (omega (arith, small)) (le-ltb _ _ small) in
    let second = number_by_again rule.Limit (λ n. nat_lt block_limit (blocks + n)) 4 file (length kept) (blocks_text ++ rest) (omega (arith, limit)) (le-ltb _ _ limit) in
    let third = many_again (block_at size) block_text file kept (λ before x after left e. block_again size file kept before x after left small valid.1 e) [] kept rest refl in
    ap (file_at blocks file) regrouped ∙ rw (first, second, third) refl

-- Entries

is_new : (entries : List DirEntry) (name : List ℕ) → is_taken entries name ≡ false → list_any (bytes_eq name) (map (λ (e : DirEntry). e.name) entries) ≡ false
is_new entries name e = e

entry_takes : (file : ℕ) (before : List DirEntry) (rest : List ℕ) (x : DirEntry × List ℕ) → AreEntries before → IsBytes rest → entry_at before file rest ≡ Ok x
    → Takes rest (entry_text x.0) x.1 × AreEntries (before ++ x.0 ∷ [])
unfolding entry_at
entry_takes file before rest x are fits e =
    let a = bind_ok (number_by rule.Cookie (breaks_cookie (last_cookie before)) 4 file rest) (λ cookie. number_by rule.Name (λ n. n == 0) 1 file cookie.1 >>= λ count. bytes_by rule.Name (breaks_name before) count.0 file count.1 >>= λ name. number_at 8 file name.1 >>= λ node. Ok (record { cookie = cookie.0; name = name.0; node = node.0 }, node.1)) x e in
    let cookie = a.0 in
    let b = bind_ok (number_by rule.Name (λ n. n == 0) 1 file cookie.1) (λ count. bytes_by rule.Name (breaks_name before) count.0 file count.1 >>= λ name. number_at 8 file name.1 >>= λ node. Ok (record { cookie = cookie.0; name = name.0; node = node.0 }, node.1)) x a.2 in
    let count = b.0 in
    let c = bind_ok (bytes_by rule.Name (breaks_name before) count.0 file count.1) (λ name. number_at 8 file name.1 >>= λ node. Ok (record { cookie = cookie.0; name = name.0; node = node.0 }, node.1)) x b.2 in
    let name = c.0 in
    let d = bind_ok (number_at 8 file name.1) (λ node. Ok (record { cookie = cookie.0; name = name.0; node = node.0 }, node.1)) x c.2 in
    let node = d.0 in
    let ka = number_kept rule.Cookie (breaks_cookie (last_cookie before)) 4 file rest cookie a.1 in
    let ta = number_takes 4 file rest cookie fits ka.0 in
    let kb = number_kept rule.Name (λ n. n == 0) 1 file cookie.1 count b.1 in
    let tb = number_takes 1 file cookie.1 count ta.0.rest_fits kb.0 in
    let kc = bytes_kept rule.Name (breaks_name before) count.0 file count.1 name c.1 in
    let tc = bytes_take count.0 file count.1 name tb.0.rest_fits kc.0 in
    let td = number_takes 8 file name.1 node tc.0.rest_fits d.1 in
    let len : length name.0 ≡ count.0 = tc.1 in
    let second : Takes cookie.1 (big_bytes 1 (length name.0)) count.1 = subst (λ (n : ℕ). Takes cookie.1 (big_bytes 1 n) count.1) (sym len) tb.0 in
    let cd = Takes-then count.1 name.0 name.1 (big_bytes 8 node.0) node.1 tc.0 td.0 in
    let bcd = Takes-then cookie.1 (big_bytes 1 (length name.0)) count.1 (name.0 ++ big_bytes 8 node.0) node.1 second cd in
    let abcd = Takes-then rest (big_bytes 4 cookie.0) cookie.1 (big_bytes 1 (length name.0) ++ (name.0 ++ big_bytes 8 node.0)) node.1 ta.0 bcd in
    let low = or_false (nat_lt cookie.0 3) (nat_lt greatest_cookie cookie.0 || not (rises (last_cookie before) cookie.0)) ka.1 in
    let high = or_false (nat_lt greatest_cookie cookie.0) (not (rises (last_cookie before) cookie.0)) low.1 in
    let up : rises (last (map (λ (o : DirEntry). o.cookie) before)) cookie.0 ≡ true = ap (λ l. rises l cookie.0) (sym (last_is (λ (o : DirEntry). o.cookie) before)) ∙ not_false _ high.1 in
    let dots = or_false (is_dots name.0) (list_any is_no_name_byte name.0 || is_taken before name.0) kc.1 in
    let plain = or_false (list_any is_no_name_byte name.0) (is_taken before name.0) dots.1 in
    let made : DirEntry = record { cookie = cookie.0; name = name.0; node = node.0 } in
    let named : IsName name.0 = record { are_bytes = tc.2; some = omega (arith, len, positive count.0 kb.1); short = omega (arith, len, tb.1); no_dots = dots.0; plain = plain.0 } in
    let valid : IsEntry made = record { low = ltb-false _ _ low.0; high = ltb-false _ _ high.0; name = named } in
    let P : DirEntry × List ℕ → Type 0 = λ y. Takes rest (entry_text y.0) y.1 × AreEntries (before ++ y.0 ∷ []) in
    subst P (ok_is (made, node.1) x d.2) (
      abcd,
      record {
        each = All-push IsEntry before made are.each valid;
        rising = rw (map_push (λ (o : DirEntry). o.cookie) before made) (sorted_push (map (λ (o : DirEntry). o.cookie) before) cookie.0 are.rising up);
        distinct = rw (map_push (λ (o : DirEntry). o.name) before made) (IsDistinct-push nat_list_eq_equiv (map (λ (o : DirEntry). o.name) before) name.0 are.distinct (is_new before name.0 plain.1));
      },
    )

-- a name differs from those before it
new_before : (whole before : List DirEntry) (x : DirEntry) (after : List DirEntry) → IsDistinct bytes_eq (map (λ (e : DirEntry). e.name) whole) → whole ≡ before ++ x ∷ after → is_taken before x.name ≡ false
new_before whole before x after distinct e =
    let P : List (List ℕ) → Type 0 = IsDistinct bytes_eq in
    let names : List DirEntry → List (List ℕ) = map (λ (o : DirEntry). o.name) in
    let parts : names whole ≡ names before ++ x.name ∷ names after = ap names e ∙ map-append (λ (o : DirEntry). o.name) before (x ∷ after) in
    distinct_new (names before) x.name (names after) (subst P parts distinct)

entry_again : (file : ℕ) (whole before : List DirEntry) (x : DirEntry) (after : List DirEntry) (rest : List ℕ) → AreEntries whole → x.node < 256 ^ 8 → whole ≡ before ++ x ∷ after
    → entry_at before file (entry_text x ++ rest) ≡ Ok (x, rest)
unfolding entry_at
entry_again file whole before x after rest are known e =
    let valid : IsEntry x = at_middle IsEntry whole before x after are.each e in
    let up = rises_before (λ (o : DirEntry). o.cookie) whole before x after are.rising e in
    let new : is_taken before x.name ≡ false = new_before whole before x after are.distinct e in
    let cookie_keeps : breaks_cookie (last_cookie before) x.cookie ≡ false = both_false _ _ (le-ltb _ _ valid.low) (both_false _ _ (le-ltb _ _ valid.high) (not_of_true _ up)) in
    let name_keeps : breaks_name before x.name ≡ false = both_false _ _ valid.name.no_dots (both_false _ _ valid.name.plain new) in
    let node_text = big_bytes 8 x.node in
    let regrouped : entry_text x ++ rest ≡ big_bytes 4 x.cookie ++ (big_bytes 1 (length x.name) ++ (x.name ++ (node_text ++ rest))) =
    append_assoc (big_bytes 4 x.cookie) (big_bytes 1 (length x.name) ++ (x.name ++ node_text)) rest
    ∙ ap (λ (t : List ℕ). big_bytes 4 x.cookie ++ t) (append_assoc (big_bytes 1 (length x.name)) (x.name ++ node_text) rest ∙ ap (λ (t : List ℕ). big_bytes 1 (length x.name) ++ t) (append_assoc x.name node_text rest)) in
    let first = number_by_again rule.Cookie (breaks_cookie (last_cookie before)) 4 file x.cookie (big_bytes 1 (length x.name) ++ (x.name ++ (node_text ++ rest))) (omega (arith, valid.high)) cookie_keeps in
    let second = number_by_again rule.Name (λ n. n == 0) 1 file (length x.name) (x.name ++ (node_text ++ rest)) (omega (arith, valid.name.short)) (not_zero (length x.name) valid.name.some) in
    let third = bytes_by_again rule.Name (breaks_name before) (length x.name) file x.name (node_text ++ rest) refl name_keeps in
    let fourth = number_again 8 file x.node rest known in
    ap (entry_at before file) regrouped ∙ rw (first, second, third, fourth) refl

-- Directories

pub dir_takes : (entries file : ℕ) (rest : List ℕ) (x : Kind × List ℕ) → entries ≤ entry_limit → IsBytes rest → dir_at entries file rest ≡ Ok x
    → (held : List DirEntry) × (x.0 ≡ Dir held) × Takes rest (kind_text x.0) x.1 × IsKind x.0 × (entries + length held ≤ entry_limit)
unfolding dir_at IsStrictlySortedBy IsDistinct
dir_takes entries file rest x few fits e =
    let a = bind_ok (number_by rule.Limit (λ n. nat_lt entry_limit (entries + n)) 4 file rest) (λ count. many entry_at count.0 [] file count.1 >>= λ held. Ok (Dir held.0, held.1)) x e in
    let count = a.0 in
    let b = bind_ok (many entry_at count.0 [] file count.1) (λ held. Ok (Dir held.0, held.1)) x a.2 in
    let held = b.0 in
    let ka = number_kept rule.Limit (λ n. nat_lt entry_limit (entries + n)) 4 file rest count a.1 in
    let ta = number_takes 4 file rest count fits ka.0 in
    let none : AreEntries [] = record { each = All-nil _; rising = tt; distinct = tt } in
    let tb = many_take entry_at entry_text AreEntries file (λ before left y are f got. entry_takes file before left y are f got) count.0 [] count.1 held none ta.0.rest_fits b.1 in
    let len : length held.0 ≡ count.0 = ap length tb.0.is ∙ tb.0.len in
    let second : Takes count.1 (flat_map entry_text held.0) held.1 = subst (λ (es : List DirEntry). Takes count.1 (flat_map entry_text es) held.1) (sym tb.0.is) tb.0.takes in
    let first : Takes rest (big_bytes 4 (length held.0)) count.1 = subst (λ (n : ℕ). Takes rest (big_bytes 4 n) count.1) (sym len) ta.0 in
    let all = Takes-then rest (big_bytes 4 (length held.0)) count.1 (flat_map entry_text held.0) held.1 first second in
    let limit : entries + length held.0 ≤ entry_limit = omega (arith, len, ltb-false _ _ ka.1) in
    let P : Kind × List ℕ → Type 0 = λ y. (h : List DirEntry) × (y.0 ≡ Dir h) × Takes rest (kind_text y.0) y.1 × IsKind y.0 × (entries + length h ≤ entry_limit) in
    subst P (ok_is (Dir held.0, held.1) x b.2) (held.0, refl, all, tb.1, limit)

pub dir_again : (entries file : ℕ) (held : List DirEntry) (rest : List ℕ) → IsKind (Dir held) → All (λ o. o.node < 256 ^ 8) held → entries + length held ≤ entry_limit
    → dir_at entries file (kind_text (Dir held) ++ rest) ≡ Ok (Dir held, rest)
unfolding dir_at
dir_again entries file held rest valid known limit =
    let text = flat_map entry_text held in
    let regrouped : kind_text (Dir held) ++ rest ≡ big_bytes 4 (length held) ++ (text ++ rest) = append_assoc (big_bytes 4 (length held)) text rest in
    let first = number_by_again rule.Limit (λ n. nat_lt entry_limit (entries + n)) 4 file (length held) (text ++ rest) (omega (arith, limit)) (le-ltb _ _ limit) in
    let second = many_again entry_at entry_text file held (λ before x after left e. entry_again file held before x after left valid (at_middle (λ (o : DirEntry). o.node < 256 ^ 8) held before x after known e) e) [] held rest refl in
    ap (dir_at entries file) regrouped ∙ rw (first, second) refl

-- Links

pub link_takes : (file : ℕ) (rest : List ℕ) (x : Kind × List ℕ) → IsBytes rest → link_at file rest ≡ Ok x
    → (target : List ℕ) × (x.0 ≡ Link target) × Takes rest (kind_text x.0) x.1 × IsKind x.0
unfolding link_at
link_takes file rest x fits e =
    let a = bind_ok (number_by rule.Name (λ n. (n == 0) || nat_lt 4095 n) 2 file rest) (λ count. bytes_by rule.Name (list_any (λ byte. byte == 0)) count.0 file count.1 >>= λ target. Ok (Link target.0, target.1)) x e in
    let count = a.0 in
    let b = bind_ok (bytes_by rule.Name (list_any (λ byte. byte == 0)) count.0 file count.1) (λ target. Ok (Link target.0, target.1)) x a.2 in
    let target = b.0 in
    let ka = number_kept rule.Name (λ n. (n == 0) || nat_lt 4095 n) 2 file rest count a.1 in
    let ta = number_takes 2 file rest count fits ka.0 in
    let kb = bytes_kept rule.Name (list_any (λ byte. byte == 0)) count.0 file count.1 target b.1 in
    let tb = bytes_take count.0 file count.1 target ta.0.rest_fits kb.0 in
    let len : length target.0 ≡ count.0 = tb.1 in
    let first : Takes rest (big_bytes 2 (length target.0)) count.1 = subst (λ (n : ℕ). Takes rest (big_bytes 2 n) count.1) (sym len) ta.0 in
    let all = Takes-then rest (big_bytes 2 (length target.0)) count.1 target.0 target.1 first tb.0 in
    let tests = or_false (count.0 == 0) (nat_lt 4095 count.0) ka.1 in
    let valid : IsTarget target.0 = record { are_bytes = tb.2; some = omega (arith, len, positive count.0 tests.0); short = omega (arith, len, ltb-false _ _ tests.1); plain = kb.1 } in
    let P : Kind × List ℕ → Type 0 = λ y. (t : List ℕ) × (y.0 ≡ Link t) × Takes rest (kind_text y.0) y.1 × IsKind y.0 in
    subst P (ok_is (Link target.0, target.1) x b.2) (target.0, refl, all, valid)

pub link_again : (file : ℕ) (target rest : List ℕ) → IsKind (Link target) → link_at file (kind_text (Link target) ++ rest) ≡ Ok (Link target, rest)
unfolding link_at
link_again file target rest valid =
    let regrouped : kind_text (Link target) ++ rest ≡ big_bytes 2 (length target) ++ (target ++ rest) = append_assoc (big_bytes 2 (length target)) target rest in
    let first = number_by_again rule.Name (λ n. (n == 0) || nat_lt 4095 n) 2 file (length target) (target ++ rest) (omega (arith, valid.short)) (both_false _ _ (not_zero (length target) valid.some) (le-ltb _ _ valid.short)) in
    let second = bytes_by_again rule.Name (list_any (λ byte. byte == 0)) (length target) file target rest refl valid.plain in
    ap (link_at file) regrouped ∙ rw (first, second) refl
