-- A journal is read as it was written, and a file is a journal exactly where it is the text of one.
use Rattle.std.proofs.Common.{◌≡◌, ℕ, ◌+◌, ◌^◌, ◌<◌, ◌≤◌, Bool, true, false, not, ◌||◌, List, [], ◌∷◌, ◌++◌, length, get_or, All, Option, Some, None, Result, Ok, Err, refl, sym, ap, subst, ◌∙◌, append_assoc, arith}
use Rattle.std.specs.Prelude.{◌==◌, IfOk, IfErr, OnOk}
use Rattle.std.specs.List.{flat_map, list_any}
use Rattle.std.specs.Str.{bytes_eq, is_utf8}
use Rattle.std.specs.Cmp.Lexicographic.{bytes_decides}
use Rattle.std.proofs.lemmas.List.{append-nil, length-append}
use Rattle.std.proofs.lemmas.List.Elements.{All-weaker}
use Rattle.byteorder.specs.Endian.{big_bytes}
use Rattle.kernel_core.specs.declared.record.Record.{Record}
use Rattle.journal.specs.declared.kept.Journal.{Journal}
use Rattle.journal.specs.declared.refusal.JournalError.{JournalError}
use Rattle.journal.specs.declared.refusal.JournalError.TheVariants.{Bad, NoMemory}
use Rattle.journal.specs.Text.{Kept, magic, counted, head_text, record_text, text_of}
use Rattle.journal.specs.Form.{IsText, AreTexts, none_before, AreRecords, IsJournal}
use Rattle.journal.specs.Reading.{◌>>=◌, number_at, number_by, bytes_at, bytes_by, many, breaks_text, text_at, records_at, counts_at, reading_of}
use Rattle.journal.specs.Meaning.{kept, fault_in, first_fault, Fails, GivesBy, IsCause}
use Rattle.journal.proofs.FieldLaws.{IsBytes, Takes, Takes-then, Takes-counted, bind_ok, ok_is, number_takes, number_again, number_by_takes, number_by_again, bytes_take, bytes_again, bytes_by_takes, bytes_by_again}
use Rattle.journal.proofs.ManyLaws.{many_take, many_again}
use Rattle.journal.proofs.RecordLaws.{records_take, records_again, records_long}
use Rattle.journal.proofs.Guards.{or_false, both_false, not_false, not_of_true, positive, not_zero}

-- Texts

-- a text that was read, or that can be
abbrev Good : List ℕ → Type 0
Good text = IsText text × (is_utf8 text ≡ true)

text_takes : (file : ℕ) (rest : List ℕ) (x : List ℕ × List ℕ) → IsBytes rest → text_at file rest ≡ Ok x → Takes rest (counted x.0) x.1 × Good x.0
unfolding text_at
text_takes file rest x fits e =
    let a = bind_ok (number_at 4 file rest) (λ count. bytes_by breaks_text count.0 file count.1) x e in
    let count = a.0 in
    let ta = number_takes 4 file rest count fits a.1 in
    let tb = bytes_by_takes breaks_text count.0 file count.1 x ta.0.rest_fits a.2 in
    let tests = or_false (not (is_utf8 x.0)) (list_any (λ byte. byte == 0) x.0) tb.keeps in
    (Takes-counted rest count x ta.0 tb.takes tb.long, (record { short = omega (arith, tb.long, ta.1); no_nul = tests.1 }, not_false _ tests.0))

text_again : (file : ℕ) (text rest : List ℕ) → Good text → text_at file (counted text ++ rest) ≡ Ok (text, rest)
unfolding text_at
text_again file text rest good =
    let regrouped = append_assoc (big_bytes 4 (length text)) text rest in
    let one = number_again 4 file (length text) (text ++ rest) good.0.short in
    let two = bytes_by_again breaks_text (length text) file text rest refl (both_false _ _ (not_of_true _ good.1) good.0.no_nul) in
    ap (text_at file) regrouped ∙ rw (one, two) refl

-- The counts

record TakesCounts (bytes : List ℕ) (x : (ℕ × ℕ) × List ℕ) : Type 0 where
  takes : Takes bytes (magic ++ (big_bytes 4 x.0.0 ++ big_bytes 4 x.0.1)) x.1
  some : 1 ≤ x.0.0
  few_args : x.0.0 < 2 ^ 32
  few_env : x.0.1 < 2 ^ 32

counts_take : (file : ℕ) (bytes : List ℕ) (x : (ℕ × ℕ) × List ℕ) → IsBytes bytes → counts_at file bytes ≡ Ok x → TakesCounts bytes x
unfolding counts_at
counts_take file bytes x fits e =
    let a = bind_ok (bytes_by (λ found. not (bytes_eq found magic)) 8 file bytes) (λ front. number_by (λ n. n == 0) 4 file front.1 >>= λ args. number_at 4 file args.1 >>= λ env. Ok ((args.0, env.0), env.1)) x e in
    let front = a.0 in
    let b = bind_ok (number_by (λ n. n == 0) 4 file front.1) (λ args. number_at 4 file args.1 >>= λ env. Ok ((args.0, env.0), env.1)) x a.2 in
    let args = b.0 in
    let c = bind_ok (number_at 4 file args.1) (λ env. Ok ((args.0, env.0), env.1)) x b.2 in
    let env = c.0 in
    let ta = bytes_by_takes (λ found. not (bytes_eq found magic)) 8 file bytes front fits a.1 in
    let tb = number_by_takes (λ n. n == 0) 4 file front.1 args ta.takes.rest_fits b.1 in
    let tc = number_takes 4 file args.1 env tb.takes.rest_fits c.1 in
    let same : front.0 ≡ magic = (bytes_decides front.0 magic).0 (not_false _ ta.keeps) in
    let first : Takes bytes magic front.1 = subst (λ (m : List ℕ). Takes bytes m front.1) same ta.takes in
    let both = Takes-then front.1 (big_bytes 4 args.0) args.1 (big_bytes 4 env.0) env.1 tb.takes tc.0 in
    let all = Takes-then bytes magic front.1 (big_bytes 4 args.0 ++ big_bytes 4 env.0) env.1 first both in
    subst (TakesCounts bytes) (ok_is ((args.0, env.0), env.1) x c.2) (record { takes = all; some = positive args.0 tb.keeps; few_args = tb.small; few_env = tc.1 })

counts_again : (file args env : ℕ) (rest : List ℕ) → 1 ≤ args → args < 2 ^ 32 → env < 2 ^ 32 → counts_at file (magic ++ (big_bytes 4 args ++ (big_bytes 4 env ++ rest))) ≡ Ok ((args, env), rest)
unfolding counts_at
counts_again file args env rest some few_args few_env =
    let one = bytes_by_again (λ found. not (bytes_eq found magic)) 8 file magic (big_bytes 4 args ++ (big_bytes 4 env ++ rest)) refl refl in
    let two = number_by_again (λ n. n == 0) 4 file args (big_bytes 4 env ++ rest) few_args (not_zero args some) in
    let three = number_again 4 file env rest few_env in
    rw (one, two, three) refl

-- The whole file

all_parts : (a b c d e f : List ℕ) → (a ++ (b ++ c)) ++ (d ++ (e ++ f)) ≡ a ++ (b ++ (c ++ (d ++ (e ++ f))))
all_parts a b c d e f = simp append_assoc

text_parts : (a b c d e f g : List ℕ) → (a ++ (b ++ (c ++ (d ++ (e ++ f))))) ++ g ≡ a ++ (b ++ (c ++ (d ++ (e ++ (f ++ g)))))
text_parts a b c d e f g = simp append_assoc

front_parts : (a b c d e f g : List ℕ) → (a ++ (b ++ c)) ++ (d ++ (e ++ (f ++ g))) ≡ (a ++ (b ++ (c ++ (d ++ (e ++ f))))) ++ g
front_parts a b c d e f g = simp append_assoc

pub reading_takes : (bytes : List ℕ) (j : Kept) → IsBytes bytes → reading_of bytes ≡ Ok j → (bytes ≡ text_of j) × IsJournal j
unfolding reading_of text_of head_text
reading_takes bytes j fits e =
    let file = length bytes in
    let a = bind_ok (counts_at file bytes) (λ counts. many text_at counts.0.0 file counts.1 >>= λ args. many text_at counts.0.1 file args.1 >>= λ env. bytes_at 16 file env.1 >>= λ random. records_at file none_before file random.1 >>= λ records. Ok (record { args = args.0; env = env.0; random = random.0; records = records })) j e in
    let counts = a.0 in
    let b = bind_ok (many text_at counts.0.0 file counts.1) (λ args. many text_at counts.0.1 file args.1 >>= λ env. bytes_at 16 file env.1 >>= λ random. records_at file none_before file random.1 >>= λ records. Ok (record { args = args.0; env = env.0; random = random.0; records = records })) j a.2 in
    let args = b.0 in
    let c = bind_ok (many text_at counts.0.1 file args.1) (λ env. bytes_at 16 file env.1 >>= λ random. records_at file none_before file random.1 >>= λ records. Ok (record { args = args.0; env = env.0; random = random.0; records = records })) j b.2 in
    let env = c.0 in
    let d = bind_ok (bytes_at 16 file env.1) (λ random. records_at file none_before file random.1 >>= λ records. Ok (record { args = args.0; env = env.0; random = random.0; records = records })) j c.2 in
    let random = d.0 in
    let f = bind_ok (records_at file none_before file random.1) (λ records. Ok (record { args = args.0; env = env.0; random = random.0; records = records })) j d.2 in
    let records = f.0 in
    let ta = counts_take file bytes counts fits a.1 in
    let tb = many_take text_at counted Good file (λ left y are got. text_takes file left y are got) counts.0.0 counts.1 args ta.takes.rest_fits b.1 in
    let tc = many_take text_at counted Good file (λ left y are got. text_takes file left y are got) counts.0.1 args.1 env tb.takes.rest_fits c.1 in
    let td = bytes_take 16 file env.1 random tc.takes.rest_fits d.1 in
    let te = records_take file none_before file random.1 records td.0.rest_fits f.1 in
    let last : random.0 ++ random.1 ≡ random.0 ++ flat_map record_text records = ap (λ (t : List ℕ). random.0 ++ t) te.0 in
    let P : ℕ → ℕ → Type 0 = λ n m. Takes bytes (magic ++ (big_bytes 4 n ++ big_bytes 4 m)) counts.1 in
    let one = subst (λ (n : ℕ). P n counts.0.1) (sym tb.len) ta.takes in
    let first = subst (P (length args.0)) (sym tc.len) one in
    let t4 : env.1 ≡ random.0 ++ flat_map record_text records = td.0.parts ∙ last in
    let t3 : args.1 ≡ flat_map counted env.0 ++ (random.0 ++ flat_map record_text records) = tc.takes.parts ∙ ap (λ (t : List ℕ). flat_map counted env.0 ++ t) t4 in
    let t2 : counts.1 ≡ flat_map counted args.0 ++ (flat_map counted env.0 ++ (random.0 ++ flat_map record_text records)) = tb.takes.parts ∙ ap (λ (t : List ℕ). flat_map counted args.0 ++ t) t3 in
    let t1 = first.parts ∙ ap (λ (t : List ℕ). (magic ++ (big_bytes 4 (length args.0) ++ big_bytes 4 (length env.0))) ++ t) t2 in
    let text = t1 ∙ front_parts magic (big_bytes 4 (length args.0)) (big_bytes 4 (length env.0)) (flat_map counted args.0) (flat_map counted env.0) random.0 (flat_map record_text records) in
    let made : Kept = record { args = args.0; env = env.0; random = random.0; records = records } in
    let Q : Kept → Type 0 = λ k. (bytes ≡ text_of k) × IsJournal k in
    subst Q (ok_is made j f.2) (
      text,
      record {
        texts = record {
          some = omega (arith, tb.len, ta.some);
          few_args = omega (arith, tb.len, ta.few_args);
          few_env = omega (arith, tc.len, ta.few_env);
          args_texts = All-weaker Good IsText (λ t g. g.0) args.0 tb.keep;
          env_texts = All-weaker Good IsText (λ t g. g.0) env.0 tc.keep;
        };
        args_utf8 = All-weaker Good (λ t. is_utf8 t ≡ true) (λ t g. g.1) args.0 tb.keep;
        env_utf8 = All-weaker Good (λ t. is_utf8 t ≡ true) (λ t g. g.1) env.0 tc.keep;
        random = td.1;
        records = te.1;
      },
    )

both_all : (P Q : List ℕ → Type 0) (xs : List (List ℕ)) → All P xs → All Q xs → All (λ x. P x × Q x) xs
both_all P Q xs p q k d below = (p k d below, q k d below)

pub reading_again : (j : Kept) → IsJournal j → reading_of (text_of j) ≡ Ok j
unfolding reading_of text_of head_text
reading_again j is =
    let args = flat_map counted j.args in
    let env = flat_map counted j.env in
    let records = flat_map record_text j.records in
    let n = big_bytes 4 (length j.args) in
    let m = big_bytes 4 (length j.env) in
    let text = magic ++ (n ++ (m ++ (args ++ (env ++ (j.random ++ records))))) in
    let regrouped : text_of j ≡ text = text_parts magic n m args env j.random records in
    let file = length text in
    let few : length j.records ≤ file = omega (arith, records_long j.records, length-append magic (n ++ (m ++ (args ++ (env ++ (j.random ++ records))))), length-append n (m ++ (args ++ (env ++ (j.random ++ records)))), length-append m (args ++ (env ++ (j.random ++ records))), length-append args (env ++ (j.random ++ records)), length-append env (j.random ++ records), length-append j.random records) in
    let one = counts_again file (length j.args) (length j.env) (args ++ (env ++ (j.random ++ records))) is.texts.some is.texts.few_args is.texts.few_env in
    let two = many_again text_at counted Good file (λ t left g. text_again file t left g) j.args (env ++ (j.random ++ records)) (both_all IsText (λ t. is_utf8 t ≡ true) j.args is.texts.args_texts is.args_utf8) in
    let three = many_again text_at counted Good file (λ t left g. text_again file t left g) j.env (j.random ++ records) (both_all IsText (λ t. is_utf8 t ≡ true) j.env is.texts.env_texts is.env_utf8) in
    let four = bytes_again 16 file j.random records is.random in
    let five = records_again file none_before file j.records is.records few in
    ap reading_of regrouped ∙ rw (one, two, three, four, five) refl

-- a text is that of one journal alone
pub one_journal : (a b : Kept) → IsJournal a → IsJournal b → text_of a ≡ text_of b → a ≡ b
one_journal a b ia ib e = ok_is a b (sym (reading_again a ia) ∙ (ap reading_of e ∙ reading_again b ib))

-- Answers

pub accepted_from : (bytes : List ℕ) (r : Result Journal JournalError) → IsBytes bytes → GivesBy (λ x. kept x) r (reading_of bytes) → IfOk r (λ j. IsJournal (kept j) × (bytes ≡ text_of (kept j)))
accepted_from bytes (Ok j) fits e = let t = reading_takes bytes (kept j) fits e in (t.1, t.0)
accepted_from bytes (Err error) fits e = tt

pub complete_from : (bytes : List ℕ) (r : Result Journal JournalError) → GivesBy (λ x. kept x) r (reading_of bytes) → (j : Kept) → IsJournal j → bytes ≡ text_of j → GivesBy (λ x. kept x) r (Ok j)
complete_from bytes r e j is text =
    let P : Result Kept ℕ → Type 0 = GivesBy (λ x. kept x) r in
    subst P (ap reading_of text ∙ reading_again j is) e
