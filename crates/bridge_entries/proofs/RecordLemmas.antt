-- A native record is read back.
use Rattle.std.proofs.Common.{◌≡◌, ℕ, suc, ◌+◌, ◌-◌, ◌*◌, ◌/◌, ◌%◌, ◌^◌, ◌<◌, ◌≤◌, Bool, true, false, List, [], ◌∷◌, ◌++◌, length, take, drop, replicate, Some, None, refl, sym, ap, ◌∙◌, arith, append_assoc, get_or, position, cond}
use Rattle.std.specs.List.{list_any, position_or_len}
use Rattle.std.specs.Prelude.{◌==◌, ◌||◌, nat_lt, slice_index, if◌then◌else◌}
use Rattle.std.proofs.lemmas.Bool.Decides.{nat_tests}
use Rattle.std.proofs.lemmas.List.{take_at, drop_at, drop-drop, drop-replicate, get_or_at, length-append, length-drop, length-replicate, length-take}
use Rattle.byteorder.specs.Endian.{little_bytes, little_number}
use Rattle.byteorder.specs.Numbers.{length-bytes_high_first, length-bytes_low_first, little_from-bytes}
use Rattle.kernel_core.specs.ValidTree.{is_no_name_byte}
use Rattle.kernel_model.specs.ContentRows.{Entry}
use Rattle.layouts.specs.Dirents.{placed, dirent_bytes, dirent_length, dirent64_bytes, dirent64_length, type_number}
use Rattle.layouts.specs.Number.{bytes_of}
use Rattle.native_calls.specs.Status.{entry_bytes, entry_type}
use Rattle.o32_model.specs.Entries as o32
use Rattle.o32_model.specs.Entries.{entry_form, entry64_form}
use Rattle.bridge_entries.specs.declared.records.Record.{Record}
use Rattle.bridge_entries.specs.inside.Given.{IsListed, record_of}
use Rattle.bridge_entries.specs.inside.Records.{record_in, with_name, name_length, if_short}

-- Its parts, one behind the other

placed_behind : (front part : List ℕ) (n at : ℕ) → length front ≡ at → placed at part (front ++ replicate n 0) ≡ (front ++ part) ++ replicate (n - length part) 0
placed_behind front part n at is =
    let zeros : List ℕ = replicate n 0 in
    let before : take at (front ++ zeros) ≡ front = take_at front zeros at is in
    let behind : drop (at + length part) (front ++ zeros) ≡ replicate (n - length part) 0
    = sym (drop-drop (length part) at (front ++ zeros)) ∙ ap (drop (length part)) (drop_at front zeros at is) ∙ drop-replicate (length part) n 0 in
    ap (λ (l : List ℕ). l ++ part ++ drop (at + length part) (front ++ zeros)) before
    ∙ ap (λ (l : List ℕ). front ++ part ++ l) behind

module _ (node cookie kind : ℕ) (name : List ℕ) where
  abbrev whole : ℕ
  whole = dirent64_length (length name)

  abbrev first : List ℕ
  first = little_bytes 8 node

  abbrev second : List ℕ
  second = first ++ little_bytes 8 cookie

  abbrev third : List ℕ
  third = second ++ little_bytes 2 whole

  abbrev fourth : List ℕ
  fourth = third ++ (kind ∷ [])

  abbrev zeros : ℕ
  zeros = whole - 8 - 8 - 2 - 1 - length name

  laid : dirent64_bytes false node cookie kind name ≡ (fourth ++ name) ++ replicate zeros 0
  laid =
      ap (λ (l : List ℕ). placed 19 name (placed 18 (kind ∷ []) (placed 16 (little_bytes 2 whole) (placed 8 (little_bytes 8 cookie) l)))) (placed_behind [] first whole 0 refl)
      ∙ ap (λ (l : List ℕ). placed 19 name (placed 18 (kind ∷ []) (placed 16 (little_bytes 2 whole) l))) (placed_behind first (little_bytes 8 cookie) (whole - 8) 8 refl)
      ∙ ap (λ (l : List ℕ). placed 19 name (placed 18 (kind ∷ []) l)) (placed_behind second (little_bytes 2 whole) (whole - 8 - 8) 16 refl)
      ∙ ap (λ (l : List ℕ). placed 19 name l) (placed_behind third (kind ∷ []) (whole - 8 - 8 - 2) 18 refl)
      ∙ placed_behind fourth name (whole - 8 - 8 - 2 - 1) 19 refl

  enough : (n : ℕ) → 20 + n ≤ (20 + n + 7) / 8 * 8
  enough n = omega arith

  pub length-native : length (dirent64_bytes false node cookie kind name) ≡ whole
  length-native =
      let long : length (fourth ++ name) ≡ 19 + length name = length-append fourth name in
      let all : length ((fourth ++ name) ++ replicate zeros 0) ≡ 19 + length name + zeros
      = length-append (fourth ++ name) (replicate zeros 0) ∙ (omega (arith, long, length-replicate {A = ℕ} zeros 0)) in
      ap length laid ∙ all ∙ omega (arith, enough (length name))

  length-whole : (n : ℕ) → 24 ≤ (20 + n + 7) / 8 * 8
  length-whole n = omega arith

  tail_zeros : zeros ≡ suc (zeros - 1)
  tail_zeros = let some = enough (length name) in omega (arith, some)

  module _ (rest : List ℕ) where
    abbrev tail : List ℕ
    tail = replicate (zeros - 1) 0 ++ rest

    abbrev bytes : List ℕ
    bytes = dirent64_bytes false node cookie kind name ++ rest

    -- behind the first parts
    stands : bytes ≡ fourth ++ (name ++ 0 ∷ tail)
    stands =
        ap (λ (l : List ℕ). l ++ rest) laid
        ∙ append_assoc (fourth ++ name) (replicate zeros 0) rest
        ∙ append_assoc fourth name (replicate zeros 0 ++ rest)
        ∙ ap (λ (n : ℕ). fourth ++ (name ++ (replicate n 0 ++ rest))) tail_zeros

    at_name : drop 19 bytes ≡ name ++ 0 ∷ tail
    at_name = ap (drop 19) stands ∙ drop_at fourth (name ++ 0 ∷ tail) 19 refl

    at_kind : bytes ≡ third ++ kind ∷ (name ++ 0 ∷ tail)
    at_kind = stands ∙ append_assoc third (kind ∷ []) (name ++ 0 ∷ tail)

    at_whole : bytes ≡ second ++ (little_bytes 2 whole ++ kind ∷ (name ++ 0 ∷ tail))
    at_whole = at_kind ∙ append_assoc second (little_bytes 2 whole) (kind ∷ (name ++ 0 ∷ tail))

    at_cookie : bytes ≡ first ++ (little_bytes 8 cookie ++ (little_bytes 2 whole ++ kind ∷ (name ++ 0 ∷ tail)))
    at_cookie = at_whole ∙ append_assoc first (little_bytes 8 cookie) (little_bytes 2 whole ++ kind ∷ (name ++ 0 ∷ tail))

    -- the fields

    same_number : (number : ℕ) → number < 2 ^ 64 → number / 256 ^ 0 % 256 ^ 8 ≡ number
    same_number number fits = omega arith

    same_word : (number : ℕ) → number < 2 ^ 32 → number / 256 ^ 0 % 256 ^ 4 ≡ number
    same_word number fits = omega arith

    same_short : (number : ℕ) → number < 2 ^ 16 → number / 256 ^ 0 % 256 ^ 2 ≡ number
    same_short number fits = omega arith

    node_is : node < 2 ^ 64 → little_number 8 bytes ≡ node
    node_is fits = ap (little_number 8) at_cookie ∙ little_from-bytes 8 0 node (little_bytes 8 cookie ++ (little_bytes 2 whole ++ kind ∷ (name ++ 0 ∷ tail))) ∙ same_number node fits

    low_half : (after : List ℕ) → little_number 4 (little_bytes 8 cookie ++ after) ≡ cookie / 256 ^ 0 % 256 ^ 4
    low_half after = little_from-bytes 4 0 cookie (take 4 (drop 4 (little_bytes 8 cookie)) ++ after)

    cookie_is : cookie < 2 ^ 32 → little_number 4 (drop 8 bytes) ≡ cookie
    cookie_is fits =
        let after : List ℕ = little_bytes 2 whole ++ kind ∷ (name ++ 0 ∷ tail) in
        ap (little_number 4) (ap (drop 8) at_cookie ∙ drop_at first (little_bytes 8 cookie ++ after) 8 refl) ∙ low_half after ∙ same_word cookie fits

    small : (n : ℕ) → n ≤ 255 → (20 + n + 7) / 8 * 8 < 2 ^ 16
    small n short = omega arith

    whole_is : length name ≤ 255 → little_number 2 (drop 16 bytes) ≡ whole
    whole_is short =
        ap (little_number 2) (ap (drop 16) at_whole ∙ drop_at second (little_bytes 2 whole ++ kind ∷ (name ++ 0 ∷ tail)) 16 refl)
        ∙ little_from-bytes 2 0 whole (kind ∷ (name ++ 0 ∷ tail)) ∙ same_short whole (small (length name) short)

    kind_is : slice_index bytes 18 ≡ kind
    kind_is = ap (λ (l : List ℕ). get_or l 18 0) at_kind ∙ get_or_at third kind (name ++ 0 ∷ tail) 0 18 refl

    length-bytes : length bytes ≡ whole + length rest
    length-bytes = length-append (dirent64_bytes false node cookie kind name) rest ∙ ap (λ (n : ℕ). n + length rest) length-native

-- The first NUL is behind the name.

not_nul : (byte : ℕ) → (byte == 47) || (byte == 0) ≡ false → (byte == 0) ≡ false
not_nul byte plain = grind (arith, nat_tests)

both_false : (a b : Bool) → (a || b) ≡ false → (a ≡ false) × (b ≡ false)
both_false false b none = (refl, none)
both_false true b none = absurd (cc)

place_of_nul : (name after : List ℕ) → list_any is_no_name_byte name ≡ false → position_or_len (λ byte. byte == 0) (name ++ 0 ∷ after) ≡ length name
place_of_nul [] after plain = refl
place_of_nul (byte ∷ name) after plain =
    let parts = both_false (is_no_name_byte byte) (list_any is_no_name_byte name) plain in
    let later = place_of_nul name after parts.1 in
    let no = not_nul byte parts.0 in
    rw no (omega (arith, later))

within_all : (name after : List ℕ) → nat_lt (length name) (length (name ++ 0 ∷ after)) ≡ true
within_all name after = let long = length-append name (0 ∷ after) in grind (arith, nat_tests)

nul_is : (name after : List ℕ) → list_any is_no_name_byte name ≡ false → position (λ byte. byte == 0) (name ++ 0 ∷ after) ≡ Some (length name)
nul_is name after plain =
    ap (λ (n : ℕ). cond (nat_lt n (length (name ++ 0 ∷ after))) (Some n) None) (place_of_nul name after plain)
    ∙ ap (λ (b : Bool). cond b (Some (length name)) None) (within_all name after)

if_short_is : (n : ℕ) → n ≤ 255 → if_short (Some n) ≡ Some n
if_short_is n short = grind (arith, nat_tests)

-- The record

all_there : (n there more : ℕ) → there ≡ (20 + n + 7) / 8 * 8 + more → nat_lt there 24 ≡ false
all_there n there more is = let long : 24 ≤ (20 + n + 7) / 8 * 8 = omega arith in grind (arith, nat_tests)

fits_there : (n there more : ℕ) → there ≡ (20 + n + 7) / 8 * 8 + more → (nat_lt ((20 + n + 7) / 8 * 8) 24 || nat_lt there ((20 + n + 7) / 8 * 8) || nat_lt ((20 + n + 7) / 8 * 8) (19 + n)) ≡ false
fits_there n there more is =
    let long : 24 ≤ (20 + n + 7) / 8 * 8 = omega arith in
    let named : 19 + n ≤ (20 + n + 7) / 8 * 8 = omega arith in
    by ((20 + n + 7) / 8 * 8) long named is where
      by : (w : ℕ) → 24 ≤ w → 19 + n ≤ w → there ≡ w + more → (nat_lt w 24 || nat_lt there w || nat_lt w (19 + n)) ≡ false
      by w long named is = grind (arith, nat_tests)

pub read_back : (node cookie kind : ℕ) (name rest : List ℕ) → node < 2 ^ 64 → cookie < 2 ^ 32 → length name ≤ 255 → list_any is_no_name_byte name ≡ false
    → record_in (dirent64_bytes false node cookie kind name ++ rest)
    ≡ Some (record { node = node; cookie = cookie; kind = kind; length = dirent64_length (length name); name = length name })
read_back node cookie kind name rest node_fits cookie_fits short plain =
    let all : List ℕ = dirent64_bytes false node cookie kind name ++ rest in
    let n : ℕ = length name in
    let long = length-bytes node cookie kind name rest in
    let named : name_length (drop 19 all) ≡ Some n
    = ap name_length (at_name node cookie kind name rest) ∙ ap if_short (nul_is name (tail node cookie kind name rest) plain) ∙ if_short_is n short in
    ap (λ (b : Bool). if b then None else with_name all (little_number 2 (drop 16 all)) (name_length (drop 19 all))) (all_there n (length all) (length rest) long)
    ∙ ap (λ (w : ℕ). with_name all w (name_length (drop 19 all))) (whole_is node cookie kind name rest short)
    ∙ ap (with_name all (dirent64_length n)) named
    ∙ ap (λ (b : Bool). if b then None else Some (fields all)) (fits_there n (length all) (length rest) long)
    ∙ ap Some (λ i. record {
      node = node_is node cookie kind name rest node_fits i;
      cookie = cookie_is node cookie kind name rest cookie_fits i;
      kind = kind_is node cookie kind name rest i;
      length = dirent64_length n;
      name = n;
    }) where
      fields : List ℕ → Record
      fields all = record { node = little_number 8 all; cookie = little_number 4 (drop 8 all); kind = slice_index all 18; length = dirent64_length (length name); name = length name }

-- an entry's

pub read_entry : (position : ℕ) (entry : Entry) (rest : List ℕ) → IsListed position entry → record_in (entry_bytes entry ++ rest) ≡ Some (record_of entry)
read_entry position entry rest listed =
    let node_fits : entry.node < 2 ^ 64 = let f = listed.node in omega (arith, f) in
    let cookie_fits : entry.cookie < 2 ^ 32 = let f = listed.cookie in omega (arith, f) in
    read_back entry.node entry.cookie (type_number (entry_type entry.kind)) entry.name rest node_fits cookie_fits listed.short listed.plain

pub length-entry : (entry : Entry) → length (entry_bytes entry) ≡ dirent64_length (length entry.name)
length-entry entry = length-native entry.node entry.cookie (type_number (entry_type entry.kind)) entry.name

-- its name lies behind the first 19 bytes
pub name_there : (entry : Entry) (rest : List ℕ) → take (length entry.name) (drop 19 (entry_bytes entry ++ rest)) ≡ entry.name
name_there entry rest =
    ap (take (length entry.name)) (at_name entry.node entry.cookie (type_number (entry_type entry.kind)) entry.name rest)
    ∙ take_at entry.name (0 ∷ tail entry.node entry.cookie (type_number (entry_type entry.kind)) entry.name rest) (length entry.name) refl

-- The program's records have the lengths that their forms say.

length-placed : (offset : ℕ) (part bytes : List ℕ) → offset + length part ≤ length bytes → length (placed offset part bytes) ≡ length bytes
length-placed offset part bytes inside =
    let front = length-append (take offset bytes ++ part) (drop (offset + length part) bytes) in
    let before = length-append (take offset bytes) part in
    omega (arith, front, before, length-take offset bytes, length-drop (offset + length part) bytes)

length-number : (big : Bool) (n number : ℕ) → length (bytes_of big n number) ≡ n
length-number true n number = length-bytes_high_first n number
length-number false n number = length-bytes_low_first 0 n number

room_for : (n : ℕ) → 19 + n ≤ (20 + n + 7) / 8 * 8
room_for n = omega arith

pub length-dirent64 : (big : Bool) (node cookie kind : ℕ) (name : List ℕ) → length (dirent64_bytes big node cookie kind name) ≡ dirent64_length (length name)
length-dirent64 big node cookie kind name =
    let whole : ℕ = dirent64_length (length name) in
    let fits : 19 + length name ≤ whole = room_for (length name) in
    let e1 : length (bytes_of big 8 node) ≡ 8 = length-number big 8 node in
    let e2 : length (bytes_of big 8 cookie) ≡ 8 = length-number big 8 cookie in
    let e3 : length (bytes_of big 2 whole) ≡ 2 = length-number big 2 whole in
    let b0 : List ℕ = replicate whole 0 in
    let l0 : length b0 ≡ whole = length-replicate {A = ℕ} whole 0 in
    let b1 : List ℕ = placed 0 (bytes_of big 8 node) b0 in
    let l1 : length b1 ≡ whole = length-placed 0 (bytes_of big 8 node) b0 (omega (arith, e1, l0, fits)) ∙ l0 in
    let b2 : List ℕ = placed 8 (bytes_of big 8 cookie) b1 in
    let l2 : length b2 ≡ whole = length-placed 8 (bytes_of big 8 cookie) b1 (omega (arith, e2, l1, fits)) ∙ l1 in
    let b3 : List ℕ = placed 16 (bytes_of big 2 whole) b2 in
    let l3 : length b3 ≡ whole = length-placed 16 (bytes_of big 2 whole) b2 (omega (arith, e3, l2, fits)) ∙ l2 in
    let b4 : List ℕ = placed 18 (kind ∷ []) b3 in
    let l4 : length b4 ≡ whole = length-placed 18 (kind ∷ []) b3 (omega (arith, l3, fits)) ∙ l3 in
    length-placed 19 name b4 (omega (arith, l4, fits)) ∙ l4

narrow_room : (n : ℕ) → 13 + n ≤ (12 + n + 3) / 4 * 4 + 1
narrow_room n = omega arith

pub length-dirent : (node cookie kind : ℕ) (name : List ℕ) → length (dirent_bytes node cookie kind name) ≡ dirent_length (length name)
length-dirent node cookie kind name =
    let whole : ℕ = dirent_length (length name) in
    let fits : 13 + length name ≤ whole + 1 = narrow_room (length name) in
    let b0 : List ℕ = replicate whole 0 in
    let l0 : length b0 ≡ whole = length-replicate {A = ℕ} whole 0 in
    let e1 : length (bytes_of true 4 node) ≡ 4 = length-number true 4 node in
    let e2 : length (bytes_of true 4 cookie) ≡ 4 = length-number true 4 cookie in
    let e3 : length (bytes_of true 2 whole) ≡ 2 = length-number true 2 whole in
    let b1 : List ℕ = placed 0 (bytes_of true 4 node) b0 in
    let l1 : length b1 ≡ whole = length-placed 0 (bytes_of true 4 node) b0 (omega (arith, e1, l0, fits)) ∙ l0 in
    let b2 : List ℕ = placed 4 (bytes_of true 4 cookie) b1 in
    let l2 : length b2 ≡ whole = length-placed 4 (bytes_of true 4 cookie) b1 (omega (arith, e2, l1, fits)) ∙ l1 in
    let b3 : List ℕ = placed 8 (bytes_of true 2 whole) b2 in
    let l3 : length b3 ≡ whole = length-placed 8 (bytes_of true 2 whole) b2 (omega (arith, e3, l2, fits)) ∙ l2 in
    let b4 : List ℕ = placed 10 name b3 in
    let l4 : length b4 ≡ whole = length-placed 10 name b3 (omega (arith, l3, fits)) ∙ l3 in
    length-placed (whole - 1) (kind ∷ []) b4 (omega (arith, l4, fits)) ∙ l4

pub length-wide : (entry : Entry) → length (entry64_form.bytes entry) ≡ dirent64_length (length entry.name)
length-wide entry = length-dirent64 true entry.node entry.cookie (type_number (o32.entry_type entry.kind)) entry.name

pub length-narrow : (entry : Entry) → length (entry_form.bytes entry) ≡ dirent_length (length entry.name)
length-narrow entry = length-dirent entry.node entry.cookie (type_number (o32.entry_type entry.kind)) entry.name
