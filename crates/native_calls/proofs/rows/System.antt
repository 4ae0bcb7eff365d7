-- Worked rows on names, limits and chance.
use Rattle.std.specs.Prelude.{◌≡◌, ℕ, ◌+◌, ◌^◌, List, [], ◌∷◌, ◌++◌, codes, map, replicate, slice_set, refl}
use Rattle.kernel_core.specs.declared.reply.Reply.{Reply}
use Rattle.kernel_model.specs.Begin.{first_limits}
use Rattle.kernel_model.specs.Pipes.{nothing}
use Rattle.kernel_model.specs.State.{Kernel}
use Rattle.kernel_model.specs.System.{random_bytes, round, set_limit}
use Rattle.native_calls.proofs.rows.Small.{error, number, six, u64, zeros}
use Rattle.native_calls.specs.Step.{NativeStep}
use Rattle.native_calls.specs.System.{getrandom_row, prlimit_row, uname_row}
use Rattle.native_calls.specs.Table.{native_call}

-- a text with zeros behind it, so many
abbrev place : List ℕ → ℕ → List ℕ
place name rest = name ++ replicate rest 0

module _ (whole : Kernel) where
  abbrev call_with : Kernel → ℕ → List ℕ → List ℕ → NativeStep
  call_with kernel number args memory = native_call number args kernel memory []

  abbrev comes : Kernel → List ℕ → Reply → NativeStep
  comes kernel memory reply = record { kernel = kernel; left = []; memory = memory; sent = nothing; reply = reply }

  -- uname

  names : call_with whole 160 (six 65536 0 0 0) (replicate 391 7) ≡ comes whole
      (place (codes "Linux") 60 ++ place (codes "o32") 62 ++ place (codes "5.10.0") 59 ++ place (codes "#1") 63 ++ place (codes "mips") 61
      ++ place (codes "(none)") 59 ++ 7 ∷ []) (number 0)
  unfolding uname_row
  names = refl

  names_outside : call_with whole 160 (six 65536 0 0 0) (replicate 389 7) ≡ comes whole (replicate 389 7) (error 14)
  unfolding uname_row
  names_outside = refl

  -- prlimit64: NOFILE is 7 and has the place 5, and STACK is 3. The new limit stands at 65536, the old one goes to 65552.

  abbrev limited : Kernel
  limited = record whole { limits = first_limits }

  -- with this limit at the place of a resource
  abbrev limited_at : ℕ → ℕ → ℕ → Kernel
  limited_at resource soft hard = record limited { limits = slice_set first_limits resource (record { soft = soft; hard = hard }) }

  limit_set : call_with limited 261 (six 100 7 65536 65552) (u64 10 ++ u64 1024 ++ replicate 16 7)
      ≡ comes (limited_at 5 10 1024) (u64 10 ++ u64 1024 ++ u64 1024 ++ u64 1024) (number 0)
  unfolding prlimit_row set_limit
  limit_set = refl

  -- what was set is told
  limit_told : call_with (limited_at 5 10 1000) 261 (six 0 7 0 65536) (replicate 16 7) ≡ comes (limited_at 5 10 1000) (u64 10 ++ u64 1000) (number 0)
  unfolding prlimit_row set_limit
  limit_told = refl

  stack_told : call_with limited 261 (six 0 3 0 65536) (replicate 16 7) ≡ comes limited (u64 0x800000 ++ replicate 8 255) (number 0)
  unfolding prlimit_row set_limit
  stack_told = refl

  -- AS is 9 and has the place 6; RSS, 5, and NPROC, 6, stay as they were

  address_space_set : call_with limited 261 (six 0 9 65536 0) (u64 10 ++ u64 20) ≡ comes (limited_at 6 10 20) (u64 10 ++ u64 20) (number 0)
  unfolding prlimit_row set_limit
  address_space_set = refl

  others_told : map (λ resource. (call_with (limited_at 6 10 20) 261 (six 0 resource 0 65536) (zeros 16)).memory) (5 ∷ 6 ∷ 8 ∷ 9 ∷ [])
      ≡ replicate 16 255 ∷ replicate 16 255 ∷ replicate 16 255 ∷ (u64 10 ++ u64 20) ∷ []
  unfolding prlimit_row set_limit
  others_told = refl

  -- of the pid and the resource the low 32 bits count
  stack_told_by_low_words : call_with limited 261 (six (2 ^ 32 + 100) (2 ^ 32 + 3) 0 65536) (replicate 16 7) ≡ comes limited (u64 0x800000 ++ replicate 8 255) (number 0)
  unfolding prlimit_row set_limit
  stack_told_by_low_words = refl

  -- the new limit is set also where the old one can't be stored
  old_limit_outside : call_with limited 261 (six 0 7 65536 65537) (u64 10 ++ u64 1024)
      ≡ comes (limited_at 5 10 1024) (u64 10 ++ u64 1024) (error 14)
  unfolding prlimit_row set_limit
  old_limit_outside = refl

  limit_of_other : call_with limited 261 (six 1 99 1 1) [] ≡ comes limited [] (error 3)
  unfolding prlimit_row set_limit
  limit_of_other = refl

  no_such_limit : call_with limited 261 (six 0 16 1 1) [] ≡ comes limited [] (error 22)
  unfolding prlimit_row set_limit
  no_such_limit = refl

  limit_unreadable : call_with limited 261 (six 0 7 65536 0) (replicate 15 0) ≡ comes limited (replicate 15 0) (error 14)
  unfolding prlimit_row set_limit
  limit_unreadable = refl

  soft_above_hard : call_with limited 261 (six 0 3 65536 0) (u64 11 ++ u64 10) ≡ comes limited (u64 11 ++ u64 10) (error 22)
  unfolding prlimit_row set_limit
  soft_above_hard = refl

  too_many_descriptors : call_with limited 261 (six 0 7 65536 0) (u64 10 ++ u64 1025) ≡ comes limited (u64 10 ++ u64 1025) (error 1)
  unfolding prlimit_row set_limit
  too_many_descriptors = refl

  -- getrandom: round and round

  abbrev chancy : ℕ → Kernel
  chancy at = record whole { chance = record { bytes = 1 ∷ 2 ∷ 3 ∷ []; at = at } }

  five_bytes : call_with (chancy 2) 278 (six 65536 5 0 0) (replicate 6 7) ≡ comes (chancy 1) (3 ∷ 1 ∷ 2 ∷ 3 ∷ 1 ∷ 7 ∷ []) (number 5)
  unfolding getrandom_row random_bytes round
  five_bytes = refl

  -- as many as there is room for
  two_bytes : call_with (chancy 0) 278 (six 65537 (2 ^ 63) 1 0) (7 ∷ 7 ∷ 7 ∷ []) ≡ comes (chancy 2) (7 ∷ 1 ∷ 2 ∷ []) (number 2)
  unfolding getrandom_row random_bytes round
  two_bytes = refl

  -- of the flags the low 32 bits count
  byte_by_low_word : call_with (chancy 0) 278 (six 65536 1 (2 ^ 32) 0) (7 ∷ []) ≡ comes (chancy 1) (1 ∷ []) (number 1)
  unfolding getrandom_row random_bytes round
  byte_by_low_word = refl

  -- and of the count all 64
  long_count : call_with (chancy 0) 278 (six 65536 (2 ^ 32 + 1) 0 0) (7 ∷ 7 ∷ []) ≡ comes (chancy 2) (1 ∷ 2 ∷ []) (number 2)
  unfolding getrandom_row random_bytes round
  long_count = refl

  no_bytes : call_with (chancy 0) 278 (six 0 0 4 0) [] ≡ comes (chancy 0) [] (number 0)
  unfolding getrandom_row random_bytes round
  no_bytes = refl

  random_outside : call_with (chancy 0) 278 (six 0 1 0 0) [] ≡ comes (chancy 0) [] (error 14)
  unfolding getrandom_row random_bytes
  random_outside = refl

  random_flag_8 : call_with (chancy 0) 278 (six 0 1 8 0) [] ≡ comes (chancy 0) [] (error 22)
  unfolding getrandom_row random_bytes
  random_flag_8 = refl

  random_flags_6 : call_with (chancy 0) 278 (six 0 1 6 0) [] ≡ comes (chancy 0) [] (error 22)
  unfolding getrandom_row random_bytes
  random_flags_6 = refl
