-- Numbers and names are inverse, in each world.
use Rattle.std.specs.Prelude.{◌≡◌, ℕ, Some, refl}
use Rattle.kernel_core.specs.declared.resource.Resource.{Resource}
use Rattle.kernel_core.specs.declared.resource.Resource.TheVariants.{Cpu}
use Rattle.number_tables.specs.inside.NumberedLaws.{numbered_number}
use Rattle.number_tables.specs.Resources.{o32_resource, native_resource, resources, resource_of_o32, resource_of_native}

-- numbers and names are inverse, in each world
pub o32_resource_number : (number : ℕ) (value : Resource) → resource_of_o32 number ≡ Some value → o32_resource value ≡ number
o32_resource_number = numbered_number o32_resource resources

pub native_resource_number : (number : ℕ) (value : Resource) → resource_of_native number ≡ Some value → native_resource value ≡ number
native_resource_number = numbered_number native_resource resources

pub o32_resource_found : (value : Resource) → resource_of_o32 (o32_resource value) ≡ Some value
o32_resource_found Cpu = refl
o32_resource_found _ = refl

pub native_resource_found : (value : Resource) → resource_of_native (native_resource value) ≡ Some value
native_resource_found Cpu = refl
native_resource_found _ = refl
