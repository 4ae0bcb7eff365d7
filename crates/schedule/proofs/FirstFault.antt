-- Lines read in turn give the first fault of the whole list, or what all of them say.
use Rattle.std.proofs.Common.{◌≡◌, ℕ, ◌+◌, ◌-◌, ◌<◌, ◌≤◌, true, false, eqb, List, [], ◌∷◌, ◌++◌, ◌==◌, length, get_or, take, Option, Some, None, Result, Ok, Err, IfOk, IfErr, refl, arith, ap, subst, sym, ◌∙◌, append_assoc, length-append, below_more}
use Rattle.std.specs.List.{filter_map, cons_option}
use Rattle.std.specs.Option.{option_map}
use Rattle.std.proofs.lemmas.List.{append-nil}
use Rattle.std.proofs.lemmas.List.Splits.{length-slice_split}
use Rattle.std.proofs.lemmas.List.Elements.{filter_map-append}
use Rattle.std.proofs.lemmas.Bool.Decides.{nat_tests}
use Rattle.std.proofs.Math.Seq.{take-append_seam, get_or-append_seam}
use Rattle.schedule.specs.declared.Schedule.{Schedule}
use Rattle.schedule.specs.declared.refusal.ScheduleRule.{ScheduleRule}
use Rattle.schedule.specs.declared.refusal.ScheduleRule.TheVariants as rules
use Rattle.schedule.specs.declared.refusal.ScheduleError.{ScheduleError}
use Rattle.schedule.specs.declared.refusal.ScheduleError.TheVariants as errors
use Rattle.schedule.specs.declared.refusal.ScheduleRefusal.{ScheduleRefusal}
use Rattle.schedule.specs.declared.statement.Statement.{Statement}
use Rattle.schedule.specs.Grammar.{number_of_rule, fault_below, unless_broken, said_below, refused, go_on, said_in_turn, schedule_of, schedule_said, meaning_of, Gives, said_alone, all_said, fault_of, fault_at_end, fault_at, AreSoundBefore, IsSchedule, IsFirstFault, NamesFirstFault}
use Rattle.schedule.specs.Statement.{line_said}
use Rattle.schedule.specs.Text.{lines_of}

-- the fault of a line with others behind it
fault_at-more : (pre : List (List ℕ)) (text next : List ℕ) (more : List (List ℕ)) → fault_at (pre ++ text ∷ next ∷ more) (length pre) ≡ fault_of (said_below (all_said pre) (line_said text))
fault_at-more pre text next more =
    let no_end : eqb (length pre + 1) (length (pre ++ text ∷ next ∷ more)) ≡ false = grind (arith, nat_tests, length-append {A = List ℕ}) in
    rw (no_end, take-append_seam pre (text ∷ next ∷ more), get_or-append_seam pre text (next ∷ more) []) refl

-- the fault of the last piece
fault_at-last : (pre : List (List ℕ)) (rest : List ℕ) → fault_at (pre ++ rest ∷ []) (length pre) ≡ fault_at_end rest
fault_at-last pre rest =
    let is_end : eqb (length pre + 1) (length (pre ++ rest ∷ [])) ≡ true = grind (arith, nat_tests, length-append {A = List ℕ}) in
    rw (is_end, get_or-append_seam pre rest [] []) refl

-- the first fault of a list of lines, by the parts of `IsFirstFault`
abbrev IsFault : List (List ℕ) → ScheduleRefusal → Type 0
IsFault lines refusal =
    (0 < refusal.line) × (refusal.line ≤ length lines) × AreSoundBefore lines (refusal.line - 1)
    × (option_map number_of_rule (fault_at lines (refusal.line - 1)) ≡ Some refusal.rule)

abbrev Meant : List (List ℕ) → Result (List Statement) ScheduleRefusal → Type 0
Meant lines (Ok said) = AreSoundBefore lines (length lines) × (said ≡ all_said lines)
Meant lines (Err refusal) = IsFault lines refusal

moved : (ps lines lines' : List (List ℕ)) (above above' : List Statement) (line line' : ℕ) → lines ≡ lines' → above ≡ above' → line ≡ line' → Meant lines (said_in_turn ps above line) → Meant lines' (said_in_turn ps above' line')
moved ps lines lines' above above' line line' e a l meant =
    let F : List (List ℕ) → Type 0 = λ x. Meant x (said_in_turn ps above' line') in
    let G : List Statement → Type 0 = λ x. Meant lines (said_in_turn ps x line') in
    let H : ℕ → Type 0 = λ x. Meant lines (said_in_turn ps above x) in
    subst F e (subst G a (subst H l meant))

sound_moved : (lines lines' : List (List ℕ)) (place place' : ℕ) → lines ≡ lines' → place ≡ place' → AreSoundBefore lines place → AreSoundBefore lines' place'
sound_moved lines lines' place place' e p sound =
    let F : List (List ℕ) → Type 0 = λ x. AreSoundBefore x place' in
    let G : ℕ → Type 0 = λ x. AreSoundBefore lines x in
    subst F e (subst G p sound)

-- a fault at a place with none before it
fault_here : (lines : List (List ℕ)) (place : ℕ) (broken : ScheduleRule) → place < length lines → AreSoundBefore lines place → fault_at lines place ≡ Some broken → IsFault lines (refused (place + 1) broken)
fault_here lines place broken below sound fault =
    let e : place ≡ place + 1 - 1 = omega arith in
    let F : ℕ → Type 0 = λ x. option_map number_of_rule (fault_at lines x) ≡ Some (number_of_rule broken) in
    (omega arith, omega arith, sound_moved lines lines place (place + 1 - 1) refl e sound, subst F e (ap (option_map number_of_rule) fault))

length_one : (pre : List (List ℕ)) (text : List ℕ) → length (pre ++ text ∷ []) ≡ length pre + 1
length_one pre text = length-append pre (text ∷ [])

kept : (f : Option ScheduleRule) (t s : Statement) → unless_broken t f ≡ Ok s → t ≡ s
kept None t s e = cc
kept (Some broken) t s e = cc

said_alone-below : (above : List Statement) (r : Result Statement ScheduleRule) (s : Statement) → said_below above r ≡ Ok s → said_alone r ≡ Some s
said_alone-below above (Err broken) s e = cc
said_alone-below above (Ok t) s e = ap (λ x. Some x) (kept (fault_below above t) t s e)

-- a line with others behind it, if those behind it mean what they are to mean
in_turn-more : (pre : List (List ℕ)) (text next : List ℕ) (more : List (List ℕ)) (r : Result Statement ScheduleRule) → said_below (all_said pre) (line_said text) ≡ r → AreSoundBefore (pre ++ text ∷ next ∷ more) (length pre) → ((longer : List (List ℕ)) → AreSoundBefore (longer ++ next ∷ more) (length longer) → Meant (longer ++ next ∷ more) (said_in_turn (next ∷ more) (all_said longer) (length longer + 1))) → Meant (pre ++ text ∷ next ∷ more) (go_on (length pre + 1) r (λ s. said_in_turn (next ∷ more) (all_said pre ++ s ∷ []) (length pre + 1 + 1)))
in_turn-more pre text next more (Ok s) said sound on =
    let lines = append_assoc pre (text ∷ []) (next ∷ more) in
    let alone = said_alone-below (all_said pre) (line_said text) s said in
    let above : all_said (pre ++ text ∷ []) ≡ all_said pre ++ s ∷ [] = filter_map-append (λ line. said_alone (line_said line)) pre (text ∷ []) ∙ ap (λ o. all_said pre ++ cons_option o []) alone in
    let here : fault_at (pre ++ text ∷ next ∷ more) (length pre) ≡ None = fault_at-more pre text next more ∙ ap fault_of said in
    let further : AreSoundBefore (pre ++ text ∷ next ∷ more) (length pre + 1) = below_more (λ k. fault_at (pre ++ text ∷ next ∷ more) k ≡ None) (length pre) sound here in
    moved (next ∷ more) _ _ _ _ _ _ lines above (ap (λ n. n + 1) (length_one pre text)) (on (pre ++ text ∷ []) (sound_moved _ _ _ _ (sym lines) (sym (length_one pre text)) further))
in_turn-more pre text next more (Err broken) said sound on =
    fault_here (pre ++ text ∷ next ∷ more) (length pre) broken (omega (arith, length-append pre (text ∷ next ∷ more))) sound (fault_at-more pre text next more ∙ ap fault_of said)

in_turn : (ps pre : List (List ℕ)) → 0 < length ps → AreSoundBefore (pre ++ ps) (length pre) → Meant (pre ++ ps) (said_in_turn ps (all_said pre) (length pre + 1))
in_turn [] pre some sound = absurd (omega arith)
in_turn ([] ∷ []) pre some sound =
    let all = below_more (λ k. fault_at (pre ++ [] ∷ []) k ≡ None) (length pre) sound (fault_at-last pre []) in (
      sound_moved _ _ _ _ refl (sym (length_one pre [])) all,
      sym (filter_map-append (λ line. said_alone (line_said line)) pre ([] ∷ []) ∙ append-nil (all_said pre)),
    )
in_turn ((byte ∷ bytes) ∷ []) pre some sound =
    fault_here (pre ++ (byte ∷ bytes) ∷ []) (length pre) rules.End (omega (arith, length_one pre (byte ∷ bytes))) sound (fault_at-last pre (byte ∷ bytes))
in_turn (text ∷ next ∷ more) pre some sound =
    in_turn-more pre text next more (said_below (all_said pre) (line_said text)) refl sound (λ longer s. in_turn (next ∷ more) longer (omega arith) s)

-- the whole text
in_turn-text : (text : List ℕ) → Meant (lines_of text) (said_in_turn (lines_of text) [] 1)
in_turn-text text = in_turn (lines_of text) [] (omega (arith, length-slice_split (λ b. b == 10) text)) (λ k below. absurd (omega arith))

of_meant : (text : List ℕ) (schedule : Schedule) (said : Result (List Statement) ScheduleRefusal) → Meant (lines_of text) said → schedule_said said ≡ Ok schedule → IsSchedule text schedule
of_meant text schedule (Ok ss) meant given =
    let e : schedule_of ss ≡ schedule = cc in
    record { sound = meant.0; value = sym e ∙ ap schedule_of meant.1 }
of_meant text schedule (Err refusal) meant given = cc

of_fault : (text : List ℕ) (refusal : ScheduleRefusal) (said : Result (List Statement) ScheduleRefusal) → Meant (lines_of text) said → schedule_said said ≡ Err refusal → IsFirstFault text refusal
of_fault text refusal (Ok ss) meant given = cc
of_fault text refusal (Err first) meant given =
    let e : first ≡ refusal = cc in
    let F : ScheduleRefusal → Type 0 = IsFirstFault text in
    subst F e (record { counted = meant.0; within = meant.1; sound = meant.2; fault = meant.3 })

-- an answer that gives the meaning is a schedule, or names the first fault
pub IsSchedule-given : (text : List ℕ) (r : Result Schedule ScheduleError) → Gives r (meaning_of text) → IfOk r (IsSchedule text)
unfolding meaning_of
IsSchedule-given text (Ok schedule) given = of_meant text schedule (said_in_turn (lines_of text) [] 1) (in_turn-text text) given
IsSchedule-given text (Err e) given = tt

pub IsFirstFault-given : (text : List ℕ) (r : Result Schedule ScheduleError) → Gives r (meaning_of text) → IfErr r (NamesFirstFault text)
unfolding meaning_of
IsFirstFault-given text (Ok schedule) given = tt
IsFirstFault-given text (Err errors.NoMemory) given = tt
IsFirstFault-given text (Err (errors.Refused refusal)) given = of_fault text refusal (said_in_turn (lines_of text) [] 1) (in_turn-text text) given
