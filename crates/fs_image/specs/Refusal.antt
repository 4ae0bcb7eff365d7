-- The rules of an image by their numbers, and what a refusal says. Rules and numbers are this project's own.
use Rattle.std.specs.Prelude.{ℕ, Option, Some, None, Result, Ok, Err}
use Rattle.fs_image.specs.declared.refusal.ImageRule.{ImageRule}
use Rattle.fs_image.specs.declared.refusal.ImageRule.TheVariants as rule
use Rattle.fs_image.specs.declared.refusal.ImageRefusal.{ImageRefusal}

abbrev pub image_rule_number : ImageRule → ℕ
image_rule_number rule.Short = 1
image_rule_number rule.Magic = 2
image_rule_number rule.Count = 3
image_rule_number rule.Number = 4
image_rule_number rule.Kind = 5
image_rule_number rule.Mode = 6
image_rule_number rule.Size = 7
image_rule_number rule.Tail = 8
image_rule_number rule.Cookie = 9
image_rule_number rule.Name = 10
image_rule_number rule.Target = 11
image_rule_number rule.Tree = 12
image_rule_number rule.Limit = 13
image_rule_number rule.Rest = 14

-- a rule that is broken, with the offset of what breaks it
abbrev pub refused : ImageRule → ℕ → ImageRefusal
refused broken at = record { rule = image_rule_number broken; at = at }

-- a value, unless a rule is broken
abbrev pub unless : {A : Type 0} → Option ImageRefusal → A → Result A ImageRefusal
unless None value = Ok value
unless (Some refusal) value = Err refusal

-- the first of two refusals
abbrev pub first_of : Option ImageRefusal → Option ImageRefusal → Option ImageRefusal
first_of None second = second
first_of (Some refusal) second = Some refusal
