-- Numbers and names are inverse, in each world.
use Rattle.std.specs.Prelude.{◌≡◌, ℕ, Some, refl}
use Rattle.kernel_core.specs.declared.request.Request.{Request}
use Rattle.kernel_core.specs.declared.request.Request.TheVariants.{Tcgets}
use Rattle.number_tables.specs.inside.NumberedLaws.{numbered_number}
use Rattle.number_tables.specs.Requests.{o32_request, native_request, requests, request_of_o32, request_of_native}

-- numbers and names are inverse, in each world
pub o32_request_number : (number : ℕ) (value : Request) → request_of_o32 number ≡ Some value → o32_request value ≡ number
o32_request_number = numbered_number o32_request requests

pub native_request_number : (number : ℕ) (value : Request) → request_of_native number ≡ Some value → native_request value ≡ number
native_request_number = numbered_number native_request requests

pub o32_request_found : (value : Request) → request_of_o32 (o32_request value) ≡ Some value
o32_request_found Tcgets = refl
o32_request_found _ = refl

pub native_request_found : (value : Request) → request_of_native (native_request value) ≡ Some value
native_request_found Tcgets = refl
native_request_found _ = refl
