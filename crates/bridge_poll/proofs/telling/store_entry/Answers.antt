-- The entry is stored whole
use Rattle.std.proofs.Common.{◌≡◌, ℕ, ◌+◌, ◌≤◌, Bool, List, Ok, Err, sym, ap, ◌∙◌, true}
use Rattle.std.specs.Prelude.{IfOk, IsTrue, OnOk, Result, length}
use Rattle.guest_space.specs.Access.{user_end}
use Rattle.guest_space.specs.Memory.{Memory}
use Rattle.kernel_core.specs.declared.core_error.NoMemory.{NoMemory}
use Rattle.kernel_model.specs.Shared.{PollSet}
use Rattle.o32_model.specs.GuestBytes.{is_storable, with_stored}
use Rattle.bridge_poll.proofs.Stores.{stored_inside, stored_so}
use Rattle.bridge_poll.specs.inside.Telling.{piece_of}
use Rattle.bridge_poll.proofs.telling.store_entry.Goals as goal

stored : (result : Result Bool NoMemory) (memory after : Memory) (a : ℕ) (events : PollSet) (bytes : List ℕ) → length bytes ≡ 8 → (is_storable memory a 8 ≡ true → bytes ≡ piece_of memory a events)
    → OnOk result (after ≡ with_stored memory a bytes) → OnOk result (after ≡ with_stored memory a (piece_of memory a events))
stored (Ok all) memory after a events bytes size is put = put ∙ stored_so memory a events bytes size is
stored (Err none) memory after a events bytes size is put = tt

inside : (result : Result Bool NoMemory) (memory : Memory) (a n : ℕ) → n ≡ 8 → IfOk result (λ all. all ≡ is_storable memory a n) → IfOk result (λ all. IsTrue all → a + 8 ≤ user_end)
inside (Ok all) memory a n size is = λ there. stored_inside memory a (sym (is ∙ ap (is_storable memory a) size) ∙ there)
inside (Err none) memory a n size is = tt

pub returns-clause-stored : goal.returns-clause-stored
returns-clause-stored c =
    stored c.put.result c.args.space.now c.put.new.space c.args.address c.args.events c.told_entry-bytes.result c.told_entry-bytes.ensures.sized c.told_entry-bytes.ensures.made c.put.ensures.stored

pub returns-clause-inside : goal.returns-clause-inside
returns-clause-inside c = inside c.put.result c.args.space.now c.args.address _ c.told_entry-bytes.ensures.sized c.put.ensures.answer
