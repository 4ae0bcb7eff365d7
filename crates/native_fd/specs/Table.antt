-- A table of descriptors as contracts see it: `Descriptors` of `kernel_model`, whose `specs/Table.antt` has what each call makes of it.
use Rattle.std.specs.Prelude.{ℕ, Bool, List, Option, refl}
use Rattle.std.specs.Coded.{Coded, code_by, coded×, coded_ℕ, coded_bool, coded_list, coded_option}
use Rattle.kernel_model.specs.Begin.{free_places}
use Rattle.kernel_model.specs.State.{Descriptors}
use Rattle.kernel_model.specs.Table.{descriptor_limit}
use Rattle.kernel_model.specs.declared.descriptor.Descriptor.{Descriptor}

abbrev pub descriptor_code : Coded Descriptor
descriptor_code =
    code_by (ℕ × Bool) (coded× coded_ℕ coded_bool)
    (λ d. (d.number, d.cloexec)) (λ t. record { number = t.0; cloexec = t.1 }) (λ _. refl)

abbrev pub descriptors_code : {A : Type 0} → Coded A → Coded (Descriptors A)
descriptors_code {A} item =
    code_by (List (Option Descriptor) × List (Option A)) (coded× (coded_list (coded_option descriptor_code)) (coded_list (coded_option item)))
    (λ t. (t.fds, t.live)) (λ t. record { fds = t.0; live = t.1 }) (λ _. refl)

-- no descriptor and no description
abbrev pub no_descriptors : {A : Type 0} → Descriptors A
no_descriptors = record { fds = free_places descriptor_limit; live = free_places descriptor_limit }
