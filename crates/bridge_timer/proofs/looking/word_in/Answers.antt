-- What is read of host memory has as many bytes as were asked for.
use Rattle.std.proofs.Common.{◌≡◌, ℕ, ◌+◌, ◌-◌, ◌≤◌, List, length, take, drop, Some, None, arith, Bool, true, false, refl, ap, length-take, length-drop}
use Rattle.std.proofs.lemmas.Bool.Decides.{nat_tests}
use Rattle.std.specs.Prelude.{if◌then◌else◌}
use Rattle.host_mem.specs.Memory.{bytes_at, is_inside, first_address}
use Rattle.bridge_timer.proofs.looking.word_in.Goals as goal

long_enough : (memory : List ℕ) (address : ℕ) → is_inside memory address 4 ≡ true → 4 ≤ length (take 4 (drop (address - first_address) memory))
long_enough memory address inside =
    let there : address + 4 ≤ first_address + length memory = grind (arith, nat_tests) in
    let begins : first_address ≤ address = grind (arith, nat_tests) in
    omega (arith, length-take 4 (drop (address - first_address) memory), length-drop (address - first_address) memory)

some_is : {A : Type 0} {a b : A} → Some a ≡ Some b → a ≡ b
some_is same = cc

all_there : (memory : List ℕ) (address : ℕ) (bytes : List ℕ) → Some bytes ≡ bytes_at memory address 4 → 4 ≤ length bytes
all_there memory address bytes there = by (is_inside memory address 4) refl there where
  by : (inside : Bool) → is_inside memory address 4 ≡ inside → Some bytes ≡ (if inside then Some (take 4 (drop (address - first_address) memory)) else None) → 4 ≤ length bytes
  by true is there = let same = some_is there in omega (arith, long_enough memory address is, ap length same)
  by false is there = absurd cc

pub read_u32-requires : goal.read_u32-requires
read_u32-requires c = all_there c.args.mem.now _ c.in-Some.bytes.now c.in-Some.ensures.bytes
