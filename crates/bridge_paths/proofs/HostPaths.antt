-- Paths in host memory: where one stands with a NUL behind it, it is read back.
use Rattle.std.proofs.Common.{◌≡◌, ℕ, zero, suc, ◌+◌, ◌-◌, ◌<◌, ◌≤◌, min, List, [], ◌∷◌, ◌++◌, length, take, drop, replicate, Some, None, Ok, refl, sym, ap, subst, ◌∙◌, ◌%◌, arith, append_assoc, append-nil, position, nat_lt, if◌then◌else◌}
use Rattle.std.proofs.Math.Seq.{take-append-add}
use Rattle.std.proofs.lemmas.Bool.Decides.{nat_tests}
use Rattle.std.proofs.lemmas.List.{length-append, length-drop, drop-append-le}
use Rattle.bridge_log.proofs.Memory.{position-after}
use Rattle.host_mem.specs.Memory.{first_address, end_address, room_from, padded}
use Rattle.native_calls.specs.HostBytes.{accessible, loadable}
use Rattle.native_calls.specs.Paths.{is_nul, path_at, path_in, path_limit}
use Rattle.bridge_paths.specs.HostPaths.{BeginsWith, HasPath}

-- Reading back

room_of : (size address : ℕ) → 65536 ≤ address → (if nat_lt address 65536 then 0 else 65536 + size - address) ≡ size - (address - 65536)
room_of size address from = grind (arith, nat_tests)

room_is : (memory : List ℕ) (address : ℕ) → first_address ≤ address → room_from memory address ≡ length (drop (address - first_address) memory)
room_is memory address from = room_of (length memory) address from ∙ sym (length-drop (address - first_address) memory)

above_both : (a b n : ℕ) → n < a → n < b → n < min a b
above_both a b n first second = omega arith

above_sum : (r n m : ℕ) → r ≡ n + suc m → n < r
above_sum r n m is = omega arith

taken : (path behind : List ℕ) (count : ℕ) → length path < count → take count (path ++ 0 ∷ behind) ≡ path ++ 0 ∷ take (count - suc (length path)) behind
taken path behind count below =
    let is : count ≡ length path + suc (count - suc (length path)) = omega arith in
    ap (λ (n : ℕ). take n (path ++ 0 ∷ behind)) is ∙ take-append-add path (0 ∷ behind) (suc (count - suc (length path)))

nul_first : (rest : List ℕ) → position is_nul (0 ∷ rest) ≡ Some 0
nul_first rest = grind (arith, nat_tests)

pub has_path : (memory path : List ℕ) (address : ℕ) → length path < path_limit → position is_nul path ≡ None → HasPath memory address path → path_at memory address ≡ Ok path
unfolding path_at
has_path memory path address short plain has =
    let count : ℕ = accessible memory address path_limit in
    let rest : List ℕ = take (count - suc (length path)) has.behind in
    let room : room_from memory address ≡ length path + suc (length has.behind) =
    room_is memory address has.from ∙ ap length has.stands ∙ length-append path (0 ∷ has.behind) in
    let below : length path < count = above_both path_limit (room_from memory address) (length path) short (above_sum (room_from memory address) (length path) (length has.behind) room) in
    let bytes : loadable memory address path_limit ≡ path ++ 0 ∷ rest = ap (take count) has.stands ∙ taken path has.behind count below in
    ap (λ (b : List ℕ). path_in b (position is_nul b)) bytes
    ∙ ap (path_in (path ++ 0 ∷ rest)) (position-after is_nul path (0 ∷ rest) 0 plain (nul_first rest))
    ∙ ap Ok (take-append-add path (0 ∷ rest) 0 ∙ append-nil path)

-- Putting

drop_front : (front rest : List ℕ) → drop (length front) (front ++ rest) ≡ rest
drop_front [] rest = refl
drop_front (x ∷ front) rest = drop_front front rest

zeros_end : (count : ℕ) → replicate {A = ℕ} count 0 ++ replicate 1 0 ≡ 0 ∷ replicate count 0
zeros_end zero = refl
zeros_end (suc count) = ap (λ (zeros : List ℕ). 0 ∷ zeros) (zeros_end count)

whole_is : (memory path middle after : List ℕ) → middle ≡ padded memory ++ path → after ≡ padded middle ++ replicate 1 0
    → after ≡ padded memory ++ (path ++ 0 ∷ replicate ((8 - length middle % 8) % 8) 0)
whole_is memory path middle after first second =
    let zeros : List ℕ = replicate ((8 - length middle % 8) % 8) 0 in
    second
    ∙ append_assoc middle zeros (replicate 1 0)
    ∙ ap (λ (t : List ℕ). middle ++ t) (zeros_end ((8 - length middle % 8) % 8))
    ∙ ap (λ (t : List ℕ). t ++ 0 ∷ zeros) first
    ∙ append_assoc (padded memory) path (0 ∷ zeros)

pub put_here : (memory path middle after : List ℕ) (address : ℕ) → middle ≡ padded memory ++ path → after ≡ padded middle ++ replicate 1 0
    → address ≡ end_address (padded memory) → HasPath after address path
put_here memory path middle after address first second at =
    let zeros : List ℕ = replicate ((8 - length middle % 8) % 8) 0 in
    let place : address - first_address ≡ length (padded memory) = omega (arith, at) in
    record {
      from = omega (arith, at);
      behind = zeros;
      stands =
          ap (λ (n : ℕ). drop n after) place
          ∙ ap (drop (length (padded memory))) (whole_is memory path middle after first second)
          ∙ drop_front (padded memory) (path ++ 0 ∷ zeros);
    }

pub more_has : (memory more other : List ℕ) (address : ℕ) → HasPath memory address other → HasPath (memory ++ more) address other
more_has memory more other address has =
    let place : ℕ = address - first_address in
    let long : length memory - place ≡ length other + suc (length has.behind) =
    sym (length-drop place memory) ∙ ap length has.stands ∙ length-append other (0 ∷ has.behind) in
    let inside : place ≤ length memory = omega (arith, long) in
    record {
      from = has.from;
      behind = has.behind ++ more;
      stands =
          drop-append-le place memory more inside
          ∙ ap (λ (t : List ℕ). t ++ more) has.stands
          ∙ append_assoc other (0 ∷ has.behind) more;
    }

pub put_behind : (memory path middle after : List ℕ) → middle ≡ padded memory ++ path → after ≡ padded middle ++ replicate 1 0
    → (address : ℕ) (other : List ℕ) → HasPath memory address other → HasPath after address other
put_behind memory path middle after first second address other has =
    let pad : List ℕ = replicate ((8 - length memory % 8) % 8) 0 in
    let rest : List ℕ = path ++ 0 ∷ replicate ((8 - length middle % 8) % 8) 0 in
    subst (λ (m : List ℕ). HasPath m address other)
    (sym (whole_is memory path middle after first second ∙ append_assoc memory pad rest))
    (more_has memory (pad ++ rest) other address has)

pub put_front : (memory path middle after : List ℕ) → middle ≡ padded memory ++ path → after ≡ padded middle ++ replicate 1 0 → BeginsWith memory after
put_front memory path middle after first second =
    let pad : List ℕ = replicate ((8 - length memory % 8) % 8) 0 in
    let rest : List ℕ = path ++ 0 ∷ replicate ((8 - length middle % 8) % 8) 0 in
    record { rest = pad ++ rest; stands = whole_is memory path middle after first second ∙ append_assoc memory pad rest }

-- the first path that is put stands at the first address
pub first_path : (before memory path : List ℕ) (address : ℕ) → before ≡ [] → address ≡ end_address (padded before) → length path < path_limit → position is_nul path ≡ None
    → HasPath memory address path → path_at memory first_address ≡ Ok path
first_path before memory path address empty at short plain has =
    let first : address ≡ first_address = at ∙ ap (λ (m : List ℕ). end_address (padded m)) empty in
    has_path memory path first_address short plain (subst (λ (a : ℕ). HasPath memory a path) first has)

-- the same where more is put behind it
pub path_before : (before memory after path : List ℕ) (address room : ℕ) → before ≡ [] → address ≡ end_address (padded before) → length path < path_limit → position is_nul path ≡ None
    → HasPath memory address path → after ≡ padded memory ++ replicate room 0 → path_at after first_address ≡ Ok path
path_before before memory after path address room empty at short plain has is =
    let pad : List ℕ = replicate ((8 - length memory % 8) % 8) 0 in
    first_path before after path address empty at short plain
    (subst (λ (m : List ℕ). HasPath m address path) (sym (is ∙ append_assoc memory pad (replicate room 0))) (more_has memory (pad ++ replicate room 0) path address has))

-- memory of one zero
pub one_zero : (before after : List ℕ) → before ≡ [] → after ≡ padded before ++ replicate 1 0 → after ≡ 0 ∷ []
one_zero before after empty is = is ∙ ap (λ (m : List ℕ). padded m ++ replicate 1 0) empty
