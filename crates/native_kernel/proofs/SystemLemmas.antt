-- The calls on limits and chance.
use Rattle.std.proofs.Common.{◌≡◌, ℕ, ◌==◌, ℤ, Bool, true, false, not, List, [], length, min, Option, refl, sym, ap, subst, ◌∙◌, arith, if◌then◌else◌}
use Rattle.std.proofs.lemmas.Bool.Decides.{nat_tests}
use Rattle.host_mem.specs.Memory.{written}
use Rattle.kernel_core.specs.declared.error.Errno.TheVariants.{EFAULT, EINVAL}
use Rattle.kernel_core.specs.declared.reply.Reply.{Reply}
use Rattle.kernel_core.specs.declared.resource.Resource.{Resource}
use Rattle.kernel_model.specs.Came.{Came, Did, Given, Done, done, refused, came_as}
use Rattle.kernel_model.specs.State.{Chance, Kernel}
use Rattle.kernel_model.specs.System.{after_chance, are_random_flags, random_bytes, round, set_limit}
use Rattle.kernel_model.specs.Transfers.{transfer_limit}
use Rattle.kernel_model.specs.declared.limit.Limit.{Limit}
use Rattle.native_calls.specs.HostBytes.{accessible, unless_null}
use Rattle.native_calls.specs.Step.{memory_after, reply_to, stored_unless_null, value}
use Rattle.native_calls.specs.System.{limit_at, limit_bytes, prlimit_row}
use Rattle.number_tables.specs.Resources.{resource_of_native}
use Rattle.native_kernel.proofs.Rounds.{length-round}
use Rattle.native_kernel.specs.inside.Quiet.{Fills, Quietly}

-- Chance

abbrev taken : Kernel → ℕ → Did Kernel (List ℕ)
taken kernel count = done (record kernel { chance = after_chance kernel.chance count }) (round kernel.chance.bytes kernel.chance.at count)

abbrev random_by : Kernel → Bool → Bool → Bool → ℕ → Did Kernel (List ℕ)
random_by kernel known none nowhere count =
    if not known then refused kernel EINVAL
    else (if none then done kernel [] else (if nowhere then refused kernel EFAULT else taken kernel count))

random_is_by : (kernel : Kernel) (asked room flags : ℕ)
    → random_bytes kernel asked room flags ≡ random_by kernel (are_random_flags flags) (asked == 0) (room == 0) (min (min asked room) transfer_limit)
unfolding random_bytes
random_is_by kernel asked room flags = refl

is_none : (number : ℕ) → (number ≡ 0 → ⊥) → (number == 0) ≡ false
is_none number some = grind (arith, nat_tests)

same_count : (memory : List ℕ) (buffer count : ℕ) → min (min count (accessible memory buffer count)) transfer_limit ≡ min (accessible memory buffer count) transfer_limit
same_count memory buffer count = omega arith

random_taken : (kernel : Kernel) (memory : List ℕ) (buffer count room most flags : ℕ)
    → are_random_flags flags ≡ true → (count ≡ 0 → ⊥) → (room ≡ 0 → ⊥) → room ≡ accessible memory buffer count → most ≡ min room transfer_limit
    → random_bytes kernel count (accessible memory buffer count) flags ≡ taken kernel most
random_taken kernel memory buffer count room most flags known some there is_room is_most =
    let found : (accessible memory buffer count == 0) ≡ false = ap (λ (n : ℕ). n == 0) (sym is_room) ∙ is_none room there in
    let total : min (min count (accessible memory buffer count)) transfer_limit ≡ most =
    same_count memory buffer count ∙ ap (λ (n : ℕ). min n transfer_limit) (sym is_room) ∙ sym is_most in
    random_is_by kernel count (accessible memory buffer count) flags
    ∙ ap (λ (b : Bool). random_by kernel b (count == 0) (accessible memory buffer count == 0) (min (min count (accessible memory buffer count)) transfer_limit)) known
    ∙ ap (λ (b : Bool). random_by kernel true b (accessible memory buffer count == 0) (min (min count (accessible memory buffer count)) transfer_limit)) (is_none count some)
    ∙ ap (λ (b : Bool). random_by kernel true false b (min (min count (accessible memory buffer count)) transfer_limit)) found
    ∙ ap (λ (n : ℕ). taken kernel n) total

-- bytes of chance that were put into memory
pub random_is : (kernel held : Kernel) (chance : Chance) (memory new : List ℕ) (buffer count room most flags : ℕ) (reply : Reply)
    → held ≡ kernel → are_random_flags flags ≡ true → (count ≡ 0 → ⊥) → (room ≡ 0 → ⊥) → room ≡ accessible memory buffer count → most ≡ min room transfer_limit
    → new ≡ written memory buffer (round held.chance.bytes held.chance.at most) → chance ≡ after_chance held.chance most → reply ≡ value most
    → Fills (written memory buffer) (random_bytes kernel count (accessible memory buffer count) flags) reply (record held { chance = chance }) memory new
random_is kernel held chance memory new buffer count room most flags reply same known some there is_room is_most stored goes_on answered =
    let row = random_taken held memory buffer count room most flags known some there is_room is_most in
    let here : Fills (written memory buffer) (random_bytes held count (accessible memory buffer count) flags) reply (record held { chance = chance }) memory new = record {
      answered = answered ∙ ap (λ (n : ℕ). value n) (sym (length-round held.chance.bytes held.chance.at most))
          ∙ ap (λ (d : Did Kernel (List ℕ)). reply_to (λ bytes. value (length bytes)) d.came) (sym row);
      became = ap (λ (next : Chance). record held { chance = next }) goes_on ∙ ap (λ (d : Did Kernel (List ℕ)). d.state) (sym row);
      put = stored ∙ ap (λ (d : Did Kernel (List ℕ)). memory_after (written memory buffer) memory d.came) (sym row);
    } in
    subst (λ (k : Kernel). Fills (written memory buffer) (random_bytes k count (accessible memory buffer count) flags) reply (record held { chance = chance }) memory new) same here

-- Limits

-- a limit that was told
pub limit_told : (kernel after : Kernel) (memory new bytes left : List ℕ) (given pid : ℤ) (resource limit old : ℕ) (named : Option Resource)
    (wanted : Option (Given Limit)) (was : Limit) (reply : Reply)
    → given ≡ pid → named ≡ resource_of_native resource → wanted ≡ unless_null limit (limit_at memory limit)
    → Done was ≡ (set_limit kernel given named wanted).came → after ≡ (set_limit kernel given named wanted).state
    → bytes ≡ limit_bytes was → reply ≡ stored_unless_null memory old bytes → new ≡ written memory old bytes
    → Quietly (prlimit_row kernel memory pid resource limit old left) reply after new left
unfolding prlimit_row
limit_told kernel after memory new bytes left given pid resource limit old named wanted was reply same is_named is_wanted came state told answered put =
    let rows = ap (λ (p : ℤ). set_limit kernel p named wanted) same ∙ ap (λ (r : Option Resource). set_limit kernel pid r wanted) is_named
    ∙ ap (λ (l : Option (Given Limit)). set_limit kernel pid (resource_of_native resource) l) is_wanted in
    let stands = ap (λ (c : Came Limit). came_as limit_bytes c) (came ∙ ap (λ (d : Did Kernel Limit). d.came) rows) in
    record {
      answered = answered ∙ ap (stored_unless_null memory old) told ∙ ap (λ c. reply_to (stored_unless_null memory old) c) stands;
      became = state ∙ ap (λ (d : Did Kernel Limit). d.state) rows;
      stored = put ∙ ap (written memory old) told ∙ ap (λ c. memory_after (written memory old) memory c) stands;
      rest = refl;
      sent = refl;
    }
