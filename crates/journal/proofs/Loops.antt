-- Reading many of a kind, as a loop does, and one of those that are left.
use Rattle.std.proofs.Common.{◌≡◌, ◌≢◌, ℕ, zero, suc, ◌-◌, ◌+◌, ◌≤◌, ◌<◌, List, [], ◌∷◌, ◌++◌, Bool, true, false, cond, Option, Some, None, Result, Ok, Err, refl, sym, ap, subst, ◌∙◌, append_assoc, arith, inl, inr}
use Rattle.std.specs.Prelude.{◌==◌, ◌⊎◌}
use Rattle.std.proofs.lemmas.Bool.{cases_Bool}
use Rattle.std.proofs.lemmas.List.{append-nil}
use Rattle.kernel_core.specs.declared.record.Record.{Record}
use Rattle.journal.specs.declared.refusal.JournalError.{JournalError}
use Rattle.journal.specs.declared.refusal.JournalError.TheVariants.{Bad, NoMemory}
use Rattle.journal.specs.declared.turns.Front.{Front}
use Rattle.journal.specs.Form.{end_kind, front_of}
use Rattle.journal.specs.Reading.{◌>>=◌, many, record_at, records_at, ended}
use Rattle.journal.specs.Meaning.{fault_in, Fails}
use Rattle.journal.specs.inside.Reads.{behind}
use Rattle.journal.specs.inside.Left.{is_read, first_or_none, all_or_none}

abbrev pub Reader : Type 0 → Type 0
Reader A = ℕ → List ℕ → Result (A × List ℕ) ℕ

abbrev pub Many : Type 0 → Type 0
Many A = Result (List A × List ℕ) ℕ

-- one before those that are read
abbrev pub with_first : {A : Type 0} → A → Many A → Many A
with_first x read = read >>= λ others. Ok (x ∷ others.0, others.1)

-- some before those that are read
abbrev pub with_before : {A : Type 0} → List A → Many A → Many A
with_before xs read = read >>= λ others. Ok (xs ++ others.0, others.1)

pub many-step : {A : Type 0} (read : Reader A) (k file : ℕ) (rest : List ℕ) (x : A) (after : List ℕ) → read file rest ≡ Ok (x, after)
    → many read (suc k) file rest ≡ with_first x (many read k file after)
unfolding many
many-step read k file rest x after got = rw got refl

pub many-none : {A : Type 0} (read : Reader A) (file : ℕ) (rest : List ℕ) → many read 0 file rest ≡ Ok ([], rest)
unfolding many
many-none read file rest = refl

pub many-stops : {A : Type 0} (read : Reader A) (k file : ℕ) (rest : List ℕ) (at : ℕ) → read file rest ≡ Err at → many read (suc k) file rest ≡ Err at
unfolding many
many-stops read k file rest at failed = rw failed refl

-- What stands behind many

behind-first : {A : Type 0} (x : A) (read : Many A) → behind (with_first x read) ≡ behind read
behind-first x (Ok found) = refl
behind-first x (Err at) = refl

pub behind-next : {A : Type 0} (read : Reader A) (count i file : ℕ) (rest : List ℕ) (x : A) (after : List ℕ) (total : Result (List ℕ) ℕ)
    → i < count → read file rest ≡ Ok (x, after) → behind (many read (count - i) file rest) ≡ total → behind (many read (count - (i + 1)) file after) ≡ total
behind-next read count i file rest x after total below got so_far =
    let k : count - i ≡ suc (count - (i + 1)) = omega arith in
    let step = ap (λ n. many read n file rest) k ∙ many-step read (count - (i + 1)) file rest x after got in
    sym (ap (λ r. behind r) step ∙ behind-first x (many read (count - (i + 1)) file after)) ∙ so_far

pub behind-fails : {A : Type 0} (read : Reader A) (at count i file : ℕ) (rest : List ℕ) (total : Result (List ℕ) ℕ)
    → i < count → read file rest ≡ Err at → behind (many read (count - i) file rest) ≡ total → total ≡ Err at
behind-fails read at count i file rest total below failed so_far =
    let k : count - i ≡ suc (count - (i + 1)) = omega arith in
    sym so_far ∙ ap (λ r. behind r) (ap (λ n. many read n file rest) k ∙ many-stops read (count - (i + 1)) file rest at failed)

pub behind-done : {A : Type 0} (read : Reader A) (count i file : ℕ) (rest : List ℕ) (total : Result (List ℕ) ℕ)
    → count ≤ i → behind (many read (count - i) file rest) ≡ total → total ≡ Ok rest
behind-done read count i file rest total past so_far =
    let k : count - i ≡ 0 = omega arith in
    sym so_far ∙ ap (λ r. behind r) (ap (λ n. many read n file rest) k ∙ many-none read file rest)

-- Many that are kept

before-first : {A : Type 0} (xs : List A) (x : A) (read : Many A) → with_before xs (with_first x read) ≡ with_before (xs ++ x ∷ []) read
before-first xs x (Ok found) = ap (λ (ys : List _). Ok (ys, found.1)) (sym (append_assoc xs (x ∷ []) found.0))
before-first xs x (Err at) = refl

pub before-none : {A : Type 0} (read : Many A) → with_before [] read ≡ read
before-none (Ok found) = refl
before-none (Err at) = refl

-- one more was read
pub many-next : {A : Type 0} (read : Reader A) (count i : ℕ) (before : List A) (file : ℕ) (rest : List ℕ) (x : A) (after : List ℕ) (total : Many A)
    → i < count → read file rest ≡ Ok (x, after) → with_before before (many read (count - i) file rest) ≡ total
    → with_before (before ++ x ∷ []) (many read (count - (i + 1)) file after) ≡ total
many-next read count i before file rest x after total below got so_far =
    let k : count - i ≡ suc (count - (i + 1)) = omega arith in
    let step = ap (λ n. many read n file rest) k ∙ many-step read (count - (i + 1)) file rest x after got in
    sym (ap (λ r. with_before before r) step ∙ before-first before x (many read (count - (i + 1)) file after)) ∙ so_far

-- the next one fails
pub many-fails : {A : Type 0} (read : Reader A) (error : JournalError) (count i : ℕ) (before : List A) (file : ℕ) (rest : List ℕ) (total : Many A)
    → i < count → Fails error (read file rest) → with_before before (many read (count - i) file rest) ≡ total → Fails error total
many-fails read NoMemory count i before file rest total below failed so_far = tt
many-fails read (Bad at) count i before file rest total below failed so_far =
    let k : count - i ≡ suc (count - (i + 1)) = omega arith in
    sym so_far ∙ ap (λ r. with_before before r) (ap (λ n. many read n file rest) k ∙ many-stops read (count - (i + 1)) file rest at failed)

-- all were read
pub many-done : {A : Type 0} (read : Reader A) (count i : ℕ) (before : List A) (file : ℕ) (rest : List ℕ) (total : Many A)
    → count ≤ i → with_before before (many read (count - i) file rest) ≡ total → total ≡ Ok (before, rest)
many-done read count i before file rest total past so_far =
    let k : count - i ≡ 0 = omega arith in
    sym so_far ∙ (ap (λ r. with_before before r) (ap (λ n. many read n file rest) k ∙ many-none read file rest) ∙ ap (λ (ys : List _). Ok (ys, rest)) (append-nil before))

-- Records

abbrev pub All_read : Type 0
All_read = Result (List Record) ℕ

abbrev pub with_record : Record → All_read → All_read
with_record x read = read >>= λ others. Ok (x ∷ others)

pub records-step : (k : ℕ) (before : Front) (file : ℕ) (rest : List ℕ) (x : Record) (after : List ℕ) → record_at before file rest ≡ Ok (x, after) → (x.kind == end_kind) ≡ false
    → records_at (suc k) before file rest ≡ with_record x (records_at k (front_of x) file after)
unfolding records_at
records-step k before file rest x after got more = rw (got, more) refl

pub records-end : (k : ℕ) (before : Front) (file : ℕ) (rest : List ℕ) (x : Record) (after : List ℕ) → record_at before file rest ≡ Ok (x, after) → (x.kind == end_kind) ≡ true
    → records_at (suc k) before file rest ≡ ended x file after
unfolding records_at
records-end k before file rest x after got last = rw (got, last) refl

pub records-stop : (k : ℕ) (before : Front) (file : ℕ) (rest : List ℕ) (at : ℕ) → record_at before file rest ≡ Err at → records_at (suc k) before file rest ≡ Err at
unfolding records_at
records-stop k before file rest at failed = rw failed refl

pub records-none : (before : Front) (file : ℕ) (rest : List ℕ) → records_at 0 before file rest ≡ Err file
unfolding records_at
records-none before file rest = refl

fault-record : (x : Record) (read : All_read) → fault_in (with_record x read) ≡ fault_in read
fault-record x (Ok found) = refl
fault-record x (Err at) = refl

-- a record that is no end was read
pub fault-next : (count i : ℕ) (before : Front) (file : ℕ) (rest : List ℕ) (x : Record) (after : List ℕ) (total : Option ℕ)
    → i < count → record_at before file rest ≡ Ok (x, after) → (x.kind == end_kind) ≡ false → fault_in (records_at (count - i) before file rest) ≡ total
    → fault_in (records_at (count - (i + 1)) (front_of x) file after) ≡ total
fault-next count i before file rest x after total below got more so_far =
    let k : count - i ≡ suc (count - (i + 1)) = omega arith in
    let step = ap (λ n. records_at n before file rest) k ∙ records-step (count - (i + 1)) before file rest x after got more in
    sym (ap (λ (r : All_read). fault_in r) step ∙ fault-record x (records_at (count - (i + 1)) (front_of x) file after)) ∙ so_far

-- the end was read
pub fault-end : (count i : ℕ) (before : Front) (file : ℕ) (rest : List ℕ) (x : Record) (after : List ℕ) (total : Option ℕ)
    → i < count → record_at before file rest ≡ Ok (x, after) → (x.kind == end_kind) ≡ true → fault_in (records_at (count - i) before file rest) ≡ total
    → fault_in (ended x file after) ≡ total
fault-end count i before file rest x after total below got last so_far =
    let k : count - i ≡ suc (count - (i + 1)) = omega arith in
    let step = ap (λ n. records_at n before file rest) k ∙ records-end (count - (i + 1)) before file rest x after got last in
    sym (ap (λ (r : All_read). fault_in r) step) ∙ so_far

-- the next record fails
pub fault-stop : (count i : ℕ) (before : Front) (file : ℕ) (rest : List ℕ) (at : ℕ) (total : Option ℕ)
    → i < count → record_at before file rest ≡ Err at → fault_in (records_at (count - i) before file rest) ≡ total → Some at ≡ total
fault-stop count i before file rest at total below failed so_far =
    let k : count - i ≡ suc (count - (i + 1)) = omega arith in
    let step = ap (λ n. records_at n before file rest) k ∙ records-stop (count - (i + 1)) before file rest at failed in
    sym (ap (λ (r : All_read). fault_in r) step) ∙ so_far

-- no end came
pub fault-done : (count i : ℕ) (before : Front) (file : ℕ) (rest : List ℕ) (total : Option ℕ)
    → count ≤ i → fault_in (records_at (count - i) before file rest) ≡ total → Some file ≡ total
fault-done count i before file rest total past so_far =
    let k : count - i ≡ 0 = omega arith in
    let none = ap (λ n. records_at n before file rest) k ∙ records-none before file rest in
    sym (ap (λ (r : All_read). fault_in r) none) ∙ so_far

-- One of those that are left

above_zero : (n : ℕ) → n ≢ 0 → n ≡ suc (n - 1)
above_zero zero h = absurd (h refl)
above_zero (suc n) h = omega arith

first-left : {A : Type 0} (x : A) (read : Many A) → is_read (with_first x read) ≡ true → (first_or_none (with_first x read) ≡ x ∷ first_or_none read) × (is_read read ≡ true)
first-left x (Ok found) e = (refl, refl)
first-left x (Err at) e = absurd cc

pub many-left : {A : Type 0} (read : Reader A) (count file : ℕ) (rest : List ℕ) (x : A) (after : List ℕ) → count ≢ 0 → is_read (many read count file rest) ≡ true → read file rest ≡ Ok (x, after)
    → (first_or_none (many read count file rest) ≡ x ∷ first_or_none (many read (count - 1) file after)) × (is_read (many read (count - 1) file after) ≡ true)
many-left read count file rest x after some whole got =
    let step = ap (λ n. many read n file rest) (above_zero count some) ∙ many-step read (count - 1) file rest x after got in
    let f = first-left x (many read (count - 1) file after) (sym (ap (λ r. is_read r) step) ∙ whole) in
    (ap (λ r. first_or_none r) step ∙ f.0, f.1)

pub many-stuck : {A : Type 0} (read : Reader A) (count file : ℕ) (rest : List ℕ) (at : ℕ) → count ≢ 0 → is_read (many read count file rest) ≡ true → read file rest ≡ Err at → ⊥
many-stuck read count file rest at some whole failed =
    let step = ap (λ n. many read n file rest) (above_zero count some) ∙ many-stops read (count - 1) file rest at failed in
    let no : is_read (many read count file rest) ≡ false = ap (λ r. is_read r) step in
    absurd cc

pub many-over : {A : Type 0} (read : Reader A) (count file : ℕ) (rest : List ℕ) → count ≡ 0 → first_or_none (many read count file rest) ≡ []
many-over read count file rest none = ap (λ n. first_or_none (many read n file rest)) none ∙ ap (λ r. first_or_none r) (many-none read file rest)

record-left : (x : Record) (read : All_read) → is_read (with_record x read) ≡ true → (all_or_none (with_record x read) ≡ x ∷ all_or_none read) × (is_read read ≡ true)
record-left x (Ok found) e = (refl, refl)
record-left x (Err at) e = absurd cc

end-left : (x : Record) (file : ℕ) (rest : List ℕ) → is_read (ended x file rest) ≡ true → all_or_none (ended x file rest) ≡ x ∷ []
end-left x file [] e = refl
end-left x file (byte ∷ rest) e = absurd cc

whole_unless : (more : ℕ) (read : All_read) → more ≢ 0 → (more ≡ 0) ⊎ (is_read read ≡ true) → is_read read ≡ true
whole_unless more read some (inl none) = absurd (some none)
whole_unless more read some (inr whole) = whole

pub records-over : (before : Front) (file : ℕ) (rest : List ℕ) (more : ℕ) → more ≡ 0 → all_or_none (records_at more before file rest) ≡ []
records-over before file rest more none = ap (λ n. all_or_none (records_at n before file rest)) none ∙ ap (λ (r : All_read). all_or_none r) (records-none before file rest)

-- what is left behind a record
pub record Left (more : ℕ) (before : Front) (file : ℕ) (rest : List ℕ) (x : Record) (after : List ℕ) (fewer : ℕ) : Type 0 where
  pub all : all_or_none (records_at more before file rest) ≡ x ∷ all_or_none (records_at fewer (front_of x) file after)
  pub whole : (fewer ≡ 0) ⊎ (is_read (records_at fewer (front_of x) file after) ≡ true)

pub records-left : (more : ℕ) (before : Front) (file : ℕ) (rest : List ℕ) (x : Record) (after : List ℕ) (fewer : ℕ) → more ≢ 0 → (more ≡ 0) ⊎ (is_read (records_at more before file rest) ≡ true) → record_at before file rest ≡ Ok (x, after)
    → fewer ≡ cond (x.kind == end_kind) 0 (more - 1) → Left more before file rest x after fewer
records-left more before file rest x after fewer some known got is =
    let whole = whole_unless more (records_at more before file rest) some known in
    let k = ap (λ n. records_at n before file rest) (above_zero more some) in
    elim (cases_Bool (x.kind == end_kind)) as (λ _. Left more before file rest x after fewer) [
      | inl last ↦
          let step = k ∙ records-end (more - 1) before file rest x after got last in
          let none : fewer ≡ 0 = is ∙ ap (λ b. cond b 0 (more - 1)) last in
          let first = ap (λ (r : All_read). all_or_none r) step ∙ end-left x file after (sym (ap (λ (r : All_read). is_read r) step) ∙ whole) in
          record {
            all = first ∙ ap (λ (xs : List Record). x ∷ xs) (sym (records-over (front_of x) file after fewer none));
            whole = inl none;
          }
      | inr other ↦
          let step = k ∙ records-step (more - 1) before file rest x after got other in
          let one : fewer ≡ more - 1 = is ∙ ap (λ b. cond b 0 (more - 1)) other in
          let f = record-left x (records_at (more - 1) (front_of x) file after) (sym (ap (λ (r : All_read). is_read r) step) ∙ whole) in
          let P : ℕ → Type 0 = λ n. Left more before file rest x after n in
          subst P (sym one) (record {
            all = ap (λ (r : All_read). all_or_none r) step ∙ f.0;
            whole = inr f.1;
          })
    ]

pub records-stuck : (more : ℕ) (before : Front) (file : ℕ) (rest : List ℕ) (at : ℕ) → more ≢ 0 → (more ≡ 0) ⊎ (is_read (records_at more before file rest) ≡ true) → record_at before file rest ≡ Err at → ⊥
records-stuck more before file rest at some known failed =
    let whole = whole_unless more (records_at more before file rest) some known in
    let step = ap (λ n. records_at n before file rest) (above_zero more some) ∙ records-stop (more - 1) before file rest at failed in
    let no : is_read (records_at more before file rest) ≡ false = ap (λ (r : All_read). is_read r) step in
    absurd cc
