-- Answers to the program's getdents(2), by the entries that the native call gave.
use Rattle.std.proofs.Common.{◌≡◌, ℕ, ◌+◌, ◌*◌, ◌/◌, ◌<◌, ◌≤◌, Bool, true, false, List, [], ◌∷◌, ◌++◌, length, Option, Some, sym, ap, subst, ◌∙◌, arith}
use Rattle.std.specs.List.{flat_map}
use Rattle.std.specs.Prelude.{nat_lt, sum_by, if◌then◌else◌}
use Rattle.std.proofs.lemmas.Bool.Decides.{nat_tests}
use Rattle.std.proofs.lemmas.List.{length-append}
use Rattle.std.proofs.lemmas.List.Concat.{length-flat_map}
use Rattle.kernel_core.specs.declared.error.Errno.{Errno}
use Rattle.kernel_core.specs.declared.error.Errno.TheVariants.{EFAULT}
use Rattle.kernel_model.specs.Came.{Came, Done, Refused}
use Rattle.kernel_model.specs.ContentRows.{Entry, fitting, position_after, record_length}
use Rattle.native_calls.specs.Status.{entry_bytes}
use Rattle.o32_model.specs.Entries.{entry_form}
use Rattle.o32_model.specs.declared.call_words.CallWords.{CallWords}
use Rattle.o32_model.specs.declared.outcome.Outcome.TheVariants.{Error, Value}
use Rattle.bridge_entries.proofs.RecordLemmas.{length-entry, length-narrow}
use Rattle.bridge_entries.proofs.ShownLemmas.{refusal_is}
use Rattle.bridge_entries.specs.declared.answers.Answer.{Answer}
use Rattle.bridge_entries.specs.declared.records.Form.TheVariants.{Narrow}
use Rattle.bridge_entries.specs.inside.Answers.{IsAnswer, came_by, came_of, if_room, narrow}
use Rattle.bridge_entries.specs.inside.Given.{AreListed}
use Rattle.bridge_entries.specs.inside.Records.{refusal}

pub answer_refused : (words : CallWords) (position : ℕ) (came : Came (List Entry)) (answer : Answer) (error : Errno) → came ≡ Refused error → answer.outcome ≡ Error error → answer.bytes.items ≡ [] → answer.place ≡ Some position → IsAnswer words position came answer
answer_refused words position came answer error is outcome bytes place =
    subst (λ (c : Came (List Entry)). IsAnswer words position c answer) (sym is) (record { outcome = outcome; bytes = bytes; place = place })

pub length_narrow : (found : List Entry) → length (flat_map entry_form.bytes found) ≡ sum_by (record_length narrow) found
length_narrow found = length-flat_map entry_form.bytes found ∙ (λ i. sum_by (λ (entry : Entry). length-narrow entry i) found)

-- some entry was given
bytes_more : (first : Entry) (rest : List ℕ) → entry_bytes first ++ rest ≡ [] → 24 ≤ 0
bytes_more first rest none =
    let long = length-entry first in
    let more : 24 ≤ (20 + length first.name + 7) / 8 * 8 = at_least (length first.name) in
    let all = length-append (entry_bytes first) rest in
    let nothing : length (entry_bytes first ++ rest) ≡ 0 = ap length none in
    omega (arith, long, more, all, nothing) where
      at_least : (n : ℕ) → 24 ≤ (20 + n + 7) / 8 * 8
      at_least n = omega arith

pub not_none : (first : Entry) (rest : List Entry) (given : List ℕ) → given ≡ [] → given ≡ flat_map entry_bytes (first ∷ rest) → ⊥
not_none first rest given none is = let bad = bytes_more first (flat_map entry_bytes rest) (sym is ∙ none) in omega (arith, bad)

pub refused_is : (position size room : ℕ) (found : List Entry) (given : List ℕ) (o : Option Errno) → AreListed position found → given ≡ flat_map entry_bytes found → o ≡ refusal Narrow size given
    → came_by size room found ≡ came_of room o (fitting narrow size found)
refused_is position size room found given o listed is told =
    ap (λ (r : Option Errno). came_of room r (fitting narrow size found)) (sym (told ∙ ap (refusal Narrow size) is ∙ refusal_is Narrow size position found listed))

-- no room for the records that fit
pub long_is : (room : ℕ) (found : List Entry) (bytes : List ℕ) → bytes ≡ flat_map entry_form.bytes found → room < length bytes → if_room room found ≡ Refused EFAULT
long_is room found bytes is long =
    let test : nat_lt room (sum_by (record_length narrow) found) ≡ true = past room (length bytes) (sum_by (record_length narrow) found) long (ap length is ∙ length_narrow found) in
    ap (λ (b : Bool). if b then Refused EFAULT else Done found) test where
      past : (room n sum : ℕ) → room < n → n ≡ sum → nat_lt room sum ≡ true
      past room n sum long is = grind (arith, nat_tests)

pub short_is : (room : ℕ) (found : List Entry) (bytes : List ℕ) → bytes ≡ flat_map entry_form.bytes found → length bytes ≤ room → if_room room found ≡ Done found
short_is room found bytes is short =
    let test : nat_lt room (sum_by (record_length narrow) found) ≡ false = within room (length bytes) (sum_by (record_length narrow) found) short (ap length is ∙ length_narrow found) in
    ap (λ (b : Bool). if b then Refused EFAULT else Done found) test where
      within : (room n sum : ℕ) → n ≤ room → n ≡ sum → nat_lt room sum ≡ false
      within room n sum short is = grind (arith, nat_tests)

pub answer_done : (words : CallWords) (position : ℕ) (came : Came (List Entry)) (answer : Answer) (found : List Entry) → came ≡ Done found → answer.outcome ≡ Value (length answer.bytes.items) → answer.bytes.items ≡ flat_map entry_form.bytes found → answer.place ≡ Some (position_after position found)
    → IsAnswer words position came answer
answer_done words position came answer found is outcome bytes place =
    subst (λ (c : Came (List Entry)). IsAnswer words position c answer) (sym is) (record { outcome = outcome ∙ ap (λ (l : List ℕ). Value (length l)) bytes; bytes = bytes; place = place })
