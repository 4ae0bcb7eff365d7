-- Worked rows on what a call is handed and how it returns.
use Rattle.std.specs.Prelude.{◌≡◌, ℕ, negsuc, List, [], ◌∷◌, ◌++◌, Some, None, replicate, refl}
use Rattle.std.specs.FinMap.{get}
use Rattle.guest_space.specs.Access.{first_denied, refusal}
use Rattle.guest_space.specs.Bytes.{read, bytes_at, byte_at}
use Rattle.guest_space.specs.Memory.{Memory}
use Rattle.kernel_core.specs.declared.error.Errno.TheVariants.{EFAULT, EINVAL, ENOSYS, ENOTTY}
use Rattle.kernel_model.specs.Pipes.{nothing}
use Rattle.kernel_model.specs.State.{Kernel}
use Rattle.mips_exec.specs.Processor.{Processor, fresh}
use Rattle.o32_model.proofs.rows.Small.{page_of, words, words_with, guest}
use Rattle.o32_model.specs.Step.{O32Step}
use Rattle.o32_model.specs.Table.{o32_call}
use Rattle.o32_model.specs.Words.{call_words, stack_pair, six_words, signed_argument, returned}
use Rattle.o32_model.specs.declared.outcome.Outcome.TheVariants.{Value, Pair, Error, Frame, BadFrame, Exit}

-- a processor with these in $v0, $v1, $a0 to $a3 and $sp
abbrev with : ℕ → ℕ → ℕ → ℕ → ℕ → ℕ → ℕ → Processor
with number second one two three four stack = record (fresh 0) {
  registers = 0 ∷ 0 ∷ number ∷ second ∷ one ∷ two ∷ three ∷ four ∷ replicate 21 0 ++ stack ∷ 0 ∷ 0 ∷ [];
}

-- four words on the stack, of which the last two lie on a page that is absent
handed : (memory : Memory) (held : List ℕ) → get memory.pages 16 ≡ Some (page_of held) → get memory.pages 17 ≡ None
    → bytes_at memory.pages 69624 4 ≡ 0 ∷ 0 ∷ 1 ∷ 2 ∷ [] → bytes_at memory.pages 69628 4 ≡ 0xFF ∷ 0 ∷ 0 ∷ 1 ∷ []
    → call_words (with 4200 9 3 5 6 7 69608) memory
    ≡ record { nr = 4200; reg = 3 ∷ 5 ∷ 6 ∷ 7 ∷ []; stack = Some 0x102 ∷ Some 0xFF00_0001 ∷ None ∷ None ∷ [] }
unfolding call_words read first_denied refusal
handed memory held kept absent fifth sixth = simp (kept, absent, fifth, sixth) refl

-- addresses count modulo 2^32: $sp + 16 is 2^32 - 4, and no word past that lies beyond user space
past_the_top : (memory : Memory) → get memory.pages 0 ≡ Some (page_of (0 ∷ 0 ∷ 0 ∷ 7 ∷ 0 ∷ 0 ∷ 0 ∷ 8 ∷ 0 ∷ 0 ∷ 0 ∷ 9 ∷ []))
    → (call_words (with 4003 0 0 0 0 0 0xFFFF_FFEC) memory).stack ≡ None ∷ Some 7 ∷ Some 8 ∷ Some 9 ∷ []
unfolding call_words read first_denied refusal bytes_at byte_at
past_the_top memory kept = simp kept refl

pair_of_words : stack_pair (words_with 4200 0 0 0 2 3) ≡ Some 0x2_0000_0003
pair_of_words = refl

pair_absent : stack_pair (words 4200 0 0 0 0) ≡ None
pair_absent = refl

six : six_words (words_with 4003 1 2 3 5 6) ≡ 1 ∷ 2 ∷ 3 ∷ 0 ∷ 5 ∷ 6 ∷ []
six = refl

six_unread : six_words (words 4003 1 2 3 4) ≡ 1 ∷ 2 ∷ 3 ∷ 4 ∷ 0 ∷ 0 ∷ []
six_unread = refl

below_zero : signed_argument (words 4338 0xFFFF_FFFF 0 0 0) 0 ≡ negsuc 0
below_zero = refl

-- Returning

gives_value : returned (with 4003 9 3 5 6 7 64) (Value 8) ≡ with 8 9 3 5 6 0 64
gives_value = refl

-- pipe: $v0 3, $v1 4
gives_pair : returned (with 4042 9 3 5 6 7 64) (Pair 3 4) ≡ with 3 4 3 5 6 0 64
gives_pair = refl

gives_error : returned (with 4003 9 3 5 6 7 64) (Error EFAULT) ≡ with 14 9 3 5 6 1 64
gives_error = refl

-- numbers of errors, by MIPS
no_such_call : returned (with 4999 9 3 5 6 7 64) (Error ENOSYS) ≡ with 89 9 3 5 6 1 64
no_such_call = refl

not_valid : returned (with 4145 9 3 5 6 7 64) (Error EINVAL) ≡ with 22 9 3 5 6 1 64
not_valid = refl

no_terminal : returned (with 4054 9 3 5 6 7 64) (Error ENOTTY) ≡ with 25 9 3 5 6 1 64
no_terminal = refl

gives_nothing : returned (with 4001 9 3 5 6 7 64) (Exit 0) ≡ with 4001 9 3 5 6 7 64
gives_nothing = refl

gives_no_frame : returned (with 4119 9 3 5 6 7 64) BadFrame ≡ with 4119 9 3 5 6 7 64
gives_no_frame = refl

gives_frame : returned (with 4119 9 3 5 6 7 64) Frame ≡ with 4119 9 3 5 6 7 64
gives_frame = refl

-- a number that no call has
module _ (kernel : Kernel) (processor : Processor) (memory : Memory) (left : List ℕ) where
  abbrev call : ℕ → O32Step
  call number = o32_call kernel (guest (words number 1 2 3 4) processor memory) left

  abbrev not_listed : O32Step
  not_listed = record { kernel = kernel; left = left; memory = memory; processor = processor; sent = nothing; outcome = Error ENOSYS }

  call_4999 : call 4999 ≡ not_listed
  call_4999 = refl

  -- read's number without the 4000
  call_3 : call 3 ≡ not_listed
  call_3 = refl

  call_0 : call 0 ≡ not_listed
  call_0 = refl

  -- of the 64-bit world
  call_63 : call 63 ≡ not_listed
  call_63 = refl

  call_4002 : call 4002 ≡ not_listed
  call_4002 = refl
