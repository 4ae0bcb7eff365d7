-- Worked rows on the small calls.
use Rattle.std.specs.Prelude.{◌≡◌, ℕ, List, [], ◌∷◌, ◌++◌, length, codes, slice_range, slice_set, Some, None, refl}
use Rattle.std.specs.FinMap.{get}
use Rattle.guest_space.specs.Access.{writable_prefix, first_denied, refusal}
use Rattle.guest_space.specs.Bytes.{bytes_at, byte_at, copied_out}
use Rattle.guest_space.specs.Memory.{Memory}
use Rattle.guest_space.specs.declared.access.Access.TheVariants.{Store}
use Rattle.kernel_core.specs.declared.error.Errno.{Errno}
use Rattle.kernel_core.specs.declared.error.Errno.TheVariants.{EFAULT, EINVAL, EPERM, ESRCH}
use Rattle.kernel_model.specs.Begin.{first_limits}
use Rattle.kernel_model.specs.Pipes.{nothing}
use Rattle.kernel_model.specs.State.{Kernel}
use Rattle.kernel_model.specs.System.{set_limit, random_bytes, round}
use Rattle.mips_exec.specs.Processor.{Processor}
use Rattle.o32_model.proofs.rows.Small.{page_of, words, guest}
use Rattle.o32_model.specs.Small.{names_bytes, exit_row, set_thread_area_row, set_robust_list_row, uname_row, getrlimit_row, prlimit_row, getrandom_row}
use Rattle.o32_model.specs.Step.{O32Step}
use Rattle.o32_model.specs.Table.{o32_call}
use Rattle.o32_model.specs.declared.call_words.CallWords.{CallWords}
use Rattle.o32_model.specs.declared.outcome.Outcome.{Outcome}
use Rattle.o32_model.specs.declared.outcome.Outcome.TheVariants.{Value, Error, Exit}

module _ (kernel : Kernel) (processor : Processor) (memory : Memory) (left : List ℕ) where
  abbrev leaves : Kernel → Memory → Outcome → O32Step
  leaves kernel memory outcome =
      record { kernel = kernel; left = left; memory = memory; processor = processor; sent = nothing; outcome = outcome }

  abbrev in_kernel : Kernel → CallWords → O32Step
  in_kernel kernel call = o32_call kernel (guest call processor memory) left

  abbrev called : CallWords → O32Step
  called call = in_kernel kernel call

  -- a call without arguments, and what one gives that does nothing else
  abbrev call : ℕ → O32Step
  call number = called (words number 0 0 0 0)

  abbrev gives : ℕ → O32Step
  gives number = leaves kernel memory (Value number)

  abbrev refuses : Errno → O32Step
  refuses error = leaves kernel memory (Error error)

  -- ids

  own_id : call 4020 ≡ gives 100
  own_id = refl

  own_thread : call 4222 ≡ gives 100
  own_thread = refl

  set_tid_address : called (words 4252 0x410800 0 0 0) ≡ gives 100
  set_tid_address = refl

  parent_id : call 4064 ≡ gives 1
  parent_id = refl

  user : call 4024 ≡ gives 0
  user = refl

  group : call 4047 ≡ gives 0
  group = refl

  effective_user : call 4049 ≡ gives 0
  effective_user = refl

  effective_group : call 4050 ≡ gives 0
  effective_group = refl

  -- calls that do nothing

  cacheflush : called (words 4147 0x400000 4096 3 0) ≡ gives 0
  cacheflush = refl

  sched_yield : call 4162 ≡ gives 0
  sched_yield = refl

  robust_list : called (words 4309 0x410800 12 0 0) ≡ gives 0
  unfolding set_robust_list_row
  robust_list = refl

  robust_list_of_64_bits : called (words 4309 0x410800 24 0 0) ≡ refuses EINVAL
  unfolding set_robust_list_row
  robust_list_of_64_bits = refl

  -- the end

  exit_7 : called (words 4001 7 0 0 0) ≡ leaves kernel memory (Exit 7)
  unfolding exit_row
  exit_7 = refl

  exit_group_300 : called (words 4246 300 0 0 0) ≡ leaves kernel memory (Exit 44)
  unfolding exit_row
  exit_group_300 = refl

  exit_below_zero : called (words 4001 0xFFFF_FFFF 0 0 0) ≡ leaves kernel memory (Exit 255)
  unfolding exit_row
  exit_below_zero = refl

  -- the thread pointer
  thread_pointer : called (words 4283 0x418000 0 0 0)
      ≡ record (gives 0) { processor = record processor { thread_pointer = 0x418000 } }
  unfolding set_thread_area_row
  thread_pointer = refl

  -- uname: six texts of 65 bytes

  names_are_long : length names_bytes ≡ 390
  names_are_long = refl

  system : slice_range names_bytes 0 6 ≡ codes "Linux" ++ 0 ∷ []
  system = refl

  node : slice_range names_bytes 65 69 ≡ codes "o32" ++ 0 ∷ []
  node = refl

  release : slice_range names_bytes 130 137 ≡ codes "5.10.0" ++ 0 ∷ []
  release = refl

  version : slice_range names_bytes 195 198 ≡ codes "#1" ++ 0 ∷ []
  version = refl

  machine : slice_range names_bytes 260 265 ≡ codes "mips" ++ 0 ∷ []
  machine = refl

  domain : slice_range names_bytes 325 332 ≡ codes "(none)" ++ 0 ∷ []
  domain = refl

  names : first_denied Store memory.pages 65536 390 ≡ None → called (words 4122 65536 0 0 0) ≡ leaves kernel (copied_out memory 65536 names_bytes) (Value 0)
  unfolding uname_row
  names room = simp room refl

  names_absent : get memory.pages 17 ≡ None → called (words 4122 69632 0 0 0) ≡ refuses EFAULT
  unfolding uname_row first_denied refusal
  names_absent absent = simp absent refl

  -- limits

  abbrev first : Kernel
  first = record kernel { limits = first_limits }

  -- 1024 and 1024 for descriptors
  descriptors_shown : (held : List ℕ) → get memory.pages 16 ≡ Some (page_of held)
      → in_kernel first (words 4076 5 65536 0 0) ≡ leaves first (copied_out memory 65536 (0 ∷ 0 ∷ 4 ∷ 0 ∷ 0 ∷ 0 ∷ 4 ∷ 0 ∷ [])) (Value 0)
  unfolding getrlimit_row set_limit first_denied refusal
  descriptors_shown held kept = simp kept refl

  -- 8 MiB, and no hard limit, for the stack
  stack_shown : (held : List ℕ) → get memory.pages 16 ≡ Some (page_of held)
      → in_kernel first (words 4076 3 65536 0 0) ≡ leaves first (copied_out memory 65536 (0 ∷ 0x80 ∷ 0 ∷ 0 ∷ 0x7F ∷ 0xFF ∷ 0xFF ∷ 0xFF ∷ [])) (Value 0)
  unfolding getrlimit_row set_limit first_denied refusal
  stack_shown held kept = simp kept refl

  shown_at_null : get memory.pages 0 ≡ None → in_kernel first (words 4076 5 0 0 0) ≡ leaves first memory (Error EFAULT)
  unfolding getrlimit_row set_limit first_denied refusal
  shown_at_null absent = simp absent refl

  no_such_limit : called (words 4076 16 65536 0 0) ≡ refuses EINVAL
  unfolding getrlimit_row set_limit
  no_such_limit = refl

  -- the old limit in 16 bytes, by its own id
  descriptors_in_16_bytes : (held : List ℕ) → get memory.pages 16 ≡ Some (page_of held)
      → in_kernel first (words 4338 100 5 0 65536) ≡ leaves first
      (copied_out memory 65536 (0 ∷ 0 ∷ 0 ∷ 0 ∷ 0 ∷ 0 ∷ 4 ∷ 0 ∷ 0 ∷ 0 ∷ 0 ∷ 0 ∷ 0 ∷ 0 ∷ 4 ∷ 0 ∷ [])) (Value 0)
  unfolding prlimit_row set_limit first_denied refusal
  descriptors_in_16_bytes held kept = simp kept refl

  -- both pointers are null
  no_limit_wanted : called (words 4338 0 5 0 0) ≡ gives 0
  unfolding prlimit_row set_limit
  no_limit_wanted = refl

  -- a new limit on CPU time of 1 and 2 seconds
  limit_set : get memory.pages 16 ≡ Some (page_of (0 ∷ 0 ∷ 0 ∷ 0 ∷ 0 ∷ 0 ∷ 0 ∷ 1 ∷ 0 ∷ 0 ∷ 0 ∷ 0 ∷ 0 ∷ 0 ∷ 0 ∷ 2 ∷ []))
      → in_kernel first (words 4338 0 0 65536 0)
      ≡ leaves (record first { limits = slice_set first_limits 0 (record { soft = 1; hard = 2 }) }) memory (Value 0)
  unfolding prlimit_row set_limit first_denied refusal bytes_at byte_at
  limit_set kept = simp kept refl

  -- where the old limit can't be stored, the new one is set all the same
  limit_set_unshown : get memory.pages 16 ≡ Some (page_of (0 ∷ 0 ∷ 0 ∷ 0 ∷ 0 ∷ 0 ∷ 0 ∷ 1 ∷ 0 ∷ 0 ∷ 0 ∷ 0 ∷ 0 ∷ 0 ∷ 0 ∷ 2 ∷ []))
      → get memory.pages 17 ≡ None
      → in_kernel first (words 4338 0 0 65536 69632)
      ≡ leaves (record first { limits = slice_set first_limits 0 (record { soft = 1; hard = 2 }) }) memory (Error EFAULT)
  unfolding prlimit_row set_limit first_denied refusal bytes_at byte_at
  limit_set_unshown kept absent = simp (kept, absent) refl

  soft_above_hard : get memory.pages 16 ≡ Some (page_of (0 ∷ 0 ∷ 0 ∷ 0 ∷ 0 ∷ 0 ∷ 0 ∷ 3 ∷ 0 ∷ 0 ∷ 0 ∷ 0 ∷ 0 ∷ 0 ∷ 0 ∷ 2 ∷ []))
      → called (words 4338 0 0 65536 0) ≡ refuses EINVAL
  unfolding prlimit_row set_limit first_denied refusal bytes_at byte_at
  soft_above_hard kept = simp kept refl

  more_descriptors : get memory.pages 16 ≡ Some (page_of (0 ∷ 0 ∷ 0 ∷ 0 ∷ 0 ∷ 0 ∷ 4 ∷ 0 ∷ 0 ∷ 0 ∷ 0 ∷ 0 ∷ 0 ∷ 0 ∷ 4 ∷ 1 ∷ []))
      → called (words 4338 0 5 65536 0) ≡ refuses EPERM
  unfolding prlimit_row set_limit first_denied refusal bytes_at byte_at
  more_descriptors kept = simp kept refl

  limit_absent : get memory.pages 17 ≡ None → called (words 4338 0 0 69632 0) ≡ refuses EFAULT
  unfolding prlimit_row set_limit first_denied refusal bytes_at
  limit_absent absent = simp absent refl

  -- the process comes before the resource, and that before the new limit
  limit_of_another : called (words 4338 1 16 0 0) ≡ refuses ESRCH
  unfolding prlimit_row set_limit
  limit_of_another = refl

  limit_of_none : called (words 4338 0 16 0x8000_0000 0) ≡ refuses EINVAL
  unfolding prlimit_row set_limit
  limit_of_none = refl

  -- chance, round and round

  abbrev by_chance : Kernel
  by_chance = record kernel { chance = record { bytes = 10 ∷ 20 ∷ 30 ∷ []; at = 2 } }

  four_by_chance : (held : List ℕ) → get memory.pages 16 ≡ Some (page_of held)
      → in_kernel by_chance (words 4353 65536 4 0 0)
      ≡ leaves (record by_chance { chance = record { bytes = 10 ∷ 20 ∷ 30 ∷ []; at = 0 } })
      (copied_out memory 65536 (30 ∷ 10 ∷ 20 ∷ 30 ∷ [])) (Value 4)
  unfolding getrandom_row random_bytes round writable_prefix first_denied refusal
  four_by_chance held kept = simp kept refl

  -- as many as can be stored
  one_by_chance : (held : List ℕ) → get memory.pages 16 ≡ Some (page_of held) → get memory.pages 17 ≡ None
      → in_kernel by_chance (words 4353 69631 4 1 0)
      ≡ leaves (record by_chance { chance = record { bytes = 10 ∷ 20 ∷ 30 ∷ []; at = 0 } }) (copied_out memory 69631 (30 ∷ [])) (Value 1)
  unfolding getrandom_row random_bytes round writable_prefix first_denied refusal
  one_by_chance held kept absent = simp (kept, absent) refl

  chance_absent : get memory.pages 17 ≡ None → called (words 4353 69632 4 0 0) ≡ refuses EFAULT
  unfolding getrandom_row random_bytes writable_prefix first_denied refusal
  chance_absent absent = simp absent refl

  -- flags above 7, and 2 with 4
  chance_with_8 : called (words 4353 0 4 8 0) ≡ refuses EINVAL
  unfolding getrandom_row random_bytes
  chance_with_8 = refl

  chance_with_6 : called (words 4353 0 4 6 0) ≡ refuses EINVAL
  unfolding getrandom_row random_bytes
  chance_with_6 = refl
