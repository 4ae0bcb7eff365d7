-- Where the program's getdents(2) and the native call stand, once the answer is known.
use Rattle.std.proofs.Common.{◌≡◌, ◌⊎◌, ℕ, ◌+◌, ◌-◌, ◌*◌, ◌<◌, ◌≤◌, ◌^◌, Bool, true, false, List, [], ◌∷◌, length, Option, Some, None, refl, sym, ap, subst, ◌∙◌, inl, inr, arith}
use Rattle.std.specs.List.{flat_map}
use Rattle.std.specs.Prelude.{◌||◌, nat_le, nat_lt, sum_by, unwrap_or, if◌then◌else◌}
use Rattle.std.proofs.lemmas.Bool.Decides.{nat_tests}
use Rattle.std.proofs.lemmas.List.Sums.{sum_by-cons}
use Rattle.kernel_core.specs.FileContent.{greatest_size}
use Rattle.kernel_core.specs.FileSystem.{IsFileSystem}
use Rattle.kernel_core.specs.declared.error.Errno.{Errno}
use Rattle.kernel_core.specs.declared.error.Errno.TheVariants.{EFAULT, EINVAL}
use Rattle.kernel_core.specs.declared.reply.Reply.{Reply}
use Rattle.kernel_model.specs.Came.{Came, Done, Refused, Did, came_as, done, refused, refused_by, refused_if}
use Rattle.kernel_model.specs.ContentRows.{Entry, entries, entries_refusal, fitting, give_entries, position_after, record_length}
use Rattle.kernel_model.specs.Descriptions.{node_of, opened}
use Rattle.kernel_model.specs.State.{Kernel, Files}
use Rattle.kernel_model.specs.Transfers.{moved_to}
use Rattle.kernel_model.specs.Whole.{on_files, with_files}
use Rattle.kernel_model.specs.declared.descriptor.Description.{Description}
use Rattle.native_calls.specs.Status.{entry_bytes, entry_records}
use Rattle.native_calls.specs.Step as native_step
use Rattle.o32_model.specs.Step as o32_step
use Rattle.o32_model.specs.declared.call_words.CallWords.{CallWords}
use Rattle.bridge_log.proofs.Replies.{outcome_of_failure}
use Rattle.bridge_log.specs.Fills.{bytes_back}
use Rattle.bridge_log.specs.Outcomes.{outcome_of}
use Rattle.bridge_entries.proofs.EntriesFound.{Gives, Refuses, found_at, fitting_listed}
use Rattle.bridge_entries.proofs.Moves.{moved_nowhere, moved_twice, narrow_gives, opened_moved, position_small}
use Rattle.bridge_entries.proofs.Narrowing.{came_again, came_asked, came_refused}
use Rattle.bridge_entries.specs.declared.answers.Answer.{Answer}
use Rattle.bridge_entries.specs.inside.Answers.{IsAnswer, IsGiven, came_by, came_of, narrow}
use Rattle.bridge_entries.specs.inside.Given.{AreListed}
use Rattle.bridge_entries.specs.inside.Listed.{IsListedBy, did_of, listed_of, place_of, place_there}

-- The native row

not_long : (size first : ℕ) → first ≤ size → nat_lt size first ≡ false
not_long size first fits = grind (arith, nat_tests)

or_less : (size first : ℕ) → (first ≤ size) ⊎ (size < first)
or_less size first = by (nat_lt size first) refl where
  by : (b : Bool) → nat_lt size first ≡ b → (first ≤ size) ⊎ (size < first)
  by true is = inr (grind (arith, nat_tests))
  by false is = inl (grind (arith, nat_tests))

is_long : (size first : ℕ) → size < first → nat_lt size first ≡ true
is_long size first long = grind (arith, nat_tests)

abbrev room_of : List Entry → ℕ
room_of found = sum_by (record_length entry_records) found

sum_by_both : (size first more sum : ℕ) → first ≤ size → more ≤ size - first → sum ≡ first + more → sum ≤ size
sum_by_both size first more sum fits less is = omega arith

fitting_short : (size : ℕ) (found : List Entry) → room_of (fitting entry_records size found) ≤ size
fitting_short size [] = omega arith
fitting_short size (entry ∷ rest) = by (or_less size (record_length entry_records entry)) (fitting_short (size - record_length entry_records entry) rest) where
  test : Bool → List Entry
  test b = if b || false then [] else entry ∷ fitting entry_records (size - record_length entry_records entry) rest

  by : (record_length entry_records entry ≤ size) ⊎ (size < record_length entry_records entry) → room_of (fitting entry_records (size - record_length entry_records entry) rest) ≤ size - record_length entry_records entry
      → room_of (fitting entry_records size (entry ∷ rest)) ≤ size
  by (inl fits) less =
      subst (λ (b : Bool). room_of (if b || false then [] else entry ∷ fitting entry_records (size - record_length entry_records entry) rest) ≤ size) (sym (not_long size (record_length entry_records entry) fits))
      (sum_by_both size (record_length entry_records entry) (room_of (fitting entry_records (size - record_length entry_records entry) rest)) _ fits less (sum_by-cons (record_length entry_records) entry (fitting entry_records (size - record_length entry_records entry) rest)))
  by (inr long) less =
      subst (λ (b : Bool). room_of (if b || false then [] else entry ∷ fitting entry_records (size - record_length entry_records entry) rest) ≤ size) (sym (is_long size (record_length entry_records entry) long))
      (omega arith)

wrong_of : Bool → Option Errno
wrong_of long = if long then Some EINVAL else None

native_some : (size : ℕ) (entry : Entry) (rest : List Entry) (first : Entry) (more : List Entry) → fitting entry_records size (entry ∷ rest) ≡ first ∷ more → entries_refusal entry_records size (entry ∷ rest) ≡ None
native_some size entry rest first more is = by (nat_lt size (record_length entry_records entry)) is where
  by : (b : Bool) → (if b || false then [] else entry ∷ fitting entry_records (size - record_length entry_records entry) rest) ≡ first ∷ more → (if b then Some EINVAL else None) ≡ None
  by true is = absurd cc
  by false is = refl

native_none : (size : ℕ) (entry : Entry) (rest : List Entry) → fitting entry_records size (entry ∷ rest) ≡ [] → entries_refusal entry_records size (entry ∷ rest) ≡ Some EINVAL
native_none size entry rest is = by (nat_lt size (record_length entry_records entry)) is where
  by : (b : Bool) → (if b || false then [] else entry ∷ fitting entry_records (size - record_length entry_records entry) rest) ≡ [] → (if b then Some EINVAL else None) ≡ Some EINVAL
  by true is = refl
  by false is = absurd cc

module _ (files : Files) (fd : ℕ) (d : Description) (size : ℕ) (found : List Entry) where
  after_given : Files
  after_given = moved_to files fd d (position_after d.position (fitting entry_records size found))

  given_all : entries_refusal entry_records size found ≡ None → give_entries files fd d entry_records size size found ≡ done (moved_to files fd d (position_after d.position (fitting entry_records size found))) (fitting entry_records size found)
  given_all none =
      let given : List Entry = fitting entry_records size found in
      ap (λ (o : Option Errno). refused_by o files (refused_if (nat_lt size (room_of given)) EFAULT files (done (moved_to files fd d (position_after d.position given)) given))) none
      ∙ ap (λ (b : Bool). refused_if b EFAULT files (done (moved_to files fd d (position_after d.position given)) given)) (not_long size (room_of given) (fitting_short size found))

  given_none : entries_refusal entry_records size found ≡ Some EINVAL → give_entries files fd d entry_records size size found ≡ refused files EINVAL
  given_none wrong =
      let given : List Entry = fitting entry_records size found in
      ap (λ (o : Option Errno). refused_by o files (refused_if (nat_lt size (room_of given)) EFAULT files (done (moved_to files fd d (position_after d.position given)) given))) wrong

-- What is given is listed.

came_listed : (position room size : ℕ) (found : List Entry) → AreListed position found → AreListed position (listed_of (came_by size room found))
came_listed position room size found listed = of (entries_refusal narrow size found) where
  given : AreListed position (fitting narrow size found)
  given = fitting_listed narrow size position found listed

  by : (b : Bool) → AreListed position (fitting narrow size found) → AreListed position (listed_of (if b then Refused EFAULT else Done (fitting narrow size found)))
  by true listed' = tt
  by false listed' = listed'

  of : (o : Option Errno) → AreListed position (listed_of (came_of room o (fitting narrow size found)))
  of (Some error) = tt
  of None = by (nat_lt room (sum_by (record_length narrow) (fitting narrow size found))) given

-- Settled: the position stays, or has to be put elsewhere, and then the kernel is the program's.

module _ (kernel : Kernel) (fd size asked room : ℕ) (words : CallWords) (answer : Answer) where
  abbrev twice : ℕ
  twice = 2 * asked

  abbrev native_did : Did Kernel (List Entry)
  native_did = did_of kernel fd twice twice

  abbrev pub program_did : Did Files (List Entry)
  program_did = entries kernel.files fd narrow size room

  pub record Stays : Type 0 where
    pub place : answer.place ≡ None
    pub same : native_did.state ≡ with_files kernel program_did.state
    pub given : IsGiven words program_did.came answer

  pub record Moves : Type 0 where
    pub description : Description
    pub node : ℕ
    pub to : ℕ
    pub place : answer.place ≡ Some to
    pub there : opened native_did.state.files fd ≡ Some description
    pub is_node : node_of description.object ≡ Some node
    pub small : to < 2 ^ 31
    pub same : with_files native_did.state (moved_to native_did.state.files fd description to) ≡ with_files kernel program_did.state
    pub given : IsGiven words program_did.came answer

  module _ (position : ℕ) (reply : Reply) (memory : List ℕ) (listed : IsListedBy native_did memory reply)
      (none : bytes_back memory reply ≡ [] → (answer.outcome ≡ outcome_of words reply) × (answer.bytes.items ≡ []) × (answer.place ≡ None))
      (some : (first : Entry) (rest : List Entry) → AreListed position (first ∷ rest) → bytes_back memory reply ≡ flat_map entry_bytes (first ∷ rest) → IsAnswer words position (came_by asked room (first ∷ rest)) answer) where
    outcome_refused : (error : Errno) → native_did.came ≡ Refused error → outcome_of words reply ≡ o32_step.failure error
    outcome_refused error is =
        ap (outcome_of words) (listed.replied ∙ ap (λ (c : Came (List Entry)). native_step.reply_to (λ (bytes : List ℕ). native_step.value (length bytes)) (came_as (flat_map entry_bytes) c)) is) ∙ outcome_of_failure words error

    -- both are refused with the same error
    stays_refused : (error : Errno) → native_did ≡ refused kernel error → (state : Files) → program_did ≡ record { state = state; came = Refused error } → state ≡ kernel.files → Stays
    stays_refused error native_is state program_is same =
        let came : native_did.came ≡ Refused error = ap (λ (d : Did Kernel (List Entry)). d.came) native_is in
        let facts = none (listed.given ∙ ap (λ (c : Came (List Entry)). flat_map entry_bytes (listed_of c)) came) in
        record {
          place = facts.2;
          same = ap (λ (d : Did Kernel (List Entry)). d.state) native_is ∙ sym (ap (λ (d : Did Files (List Entry)). with_files kernel d.state) program_is ∙ ap (with_files kernel) same);
          given = subst (λ (d : Did Files (List Entry)). IsGiven words d.came answer) (sym program_is) (record { outcome = facts.0 ∙ outcome_refused error came; bytes = facts.1 });
        }

    -- both give no entry
    stays_empty : (state : Files) → native_did ≡ done (with_files kernel state) [] → program_did ≡ done state [] → Stays
    stays_empty state native_is program_is =
        let came : native_did.came ≡ Done [] = ap (λ (d : Did Kernel (List Entry)). d.came) native_is in
        let facts = none (listed.given ∙ ap (λ (c : Came (List Entry)). flat_map entry_bytes (listed_of c)) came) in
        let zero_is : outcome_of words reply ≡ o32_step.value 0
        = ap (outcome_of words) (listed.replied ∙ ap (λ (c : Came (List Entry)). native_step.reply_to (λ (bytes : List ℕ). native_step.value (length bytes)) (came_as (flat_map entry_bytes) c)) came) in
        record {
          place = facts.2;
          same = ap (λ (d : Did Kernel (List Entry)). d.state) native_is ∙ sym (ap (λ (d : Did Files (List Entry)). with_files kernel d.state) program_is);
          given = subst (λ (d : Did Files (List Entry)). IsGiven words d.came answer) (sym program_is) (record { outcome = facts.0 ∙ zero_is; bytes = facts.1 });
        }

    module _ (asks : (asked ≡ size) ⊎ ((asked ≤ size) × (room + 268 ≤ asked))) (d : Description) (node : ℕ) (there : opened kernel.files fd ≡ Some d) (is_node : node_of d.object ≡ Some node) where
      module _ (found : List Entry) (all : AreListed d.position found) (native_is : native_did ≡ on_files kernel (give_entries kernel.files fd d entry_records twice twice found))
          (program_is : program_did ≡ give_entries kernel.files fd d narrow size room found) where
        program_is' : program_did ≡ record { state = moved_to kernel.files fd d (position_after d.position (listed_of (came_by size room found))); came = came_by size room found }
        program_is' = program_is ∙ narrow_gives kernel.files fd d there size room found

        -- the native call gave some
        moves : (first : Entry) (rest : List Entry) → fitting entry_records twice found ≡ first ∷ rest → entries_refusal entry_records twice found ≡ None → position ≡ d.position → d.position < 2 ^ 31 → Moves
        moves first rest given allowed at small =
            let files : Files = kernel.files in
            let stands : ℕ = position_after d.position (fitting entry_records twice found) in
            let to : ℕ = position_after d.position (listed_of (came_by size room found)) in
            let native_all : native_did ≡ done (with_files kernel (moved_to files fd d stands)) (fitting entry_records twice found) = native_is ∙ ap (on_files kernel) (given_all files fd d twice found allowed) in
            let listed_first : AreListed d.position (first ∷ rest) = subst (AreListed d.position) given (fitting_listed entry_records twice d.position found all) in
            let back : bytes_back memory reply ≡ flat_map entry_bytes (first ∷ rest)
            = listed.given ∙ ap (λ (c : Did Kernel (List Entry)). flat_map entry_bytes (listed_of c.came)) native_all ∙ ap (flat_map entry_bytes) given in
            let came_is : came_by asked room (first ∷ rest) ≡ came_by size room found
            = ap (came_by asked room) (sym given) ∙ came_again asked twice room found first rest (omega arith) given ∙ came_asked d.position size asked room found asks all in
            let is : IsAnswer words d.position (came_by size room found) answer
            = subst (λ (c : Came (List Entry)). IsAnswer words d.position c answer) came_is
            (subst (λ (p : ℕ). IsAnswer words p (came_by asked room (first ∷ rest)) answer) at (some first rest (subst (λ (p : ℕ). AreListed p (first ∷ rest)) (sym at) listed_first) back)) in
            let state_is : native_did.state ≡ with_files kernel (moved_to files fd d stands) = ap (λ (c : Did Kernel (List Entry)). c.state) native_all in
            record {
              description = record d { position = stands };
              node = node;
              to = to;
              place = is.place;
              there = ap (λ (k : Kernel). opened k.files fd) state_is ∙ opened_moved files fd d there stands;
              is_node = is_node;
              small = position_small d.position (listed_of (came_by size room found)) small (came_listed d.position room size found all);
              same =
                  ap (λ (k : Kernel). with_files k (moved_to k.files fd (record d { position = stands }) to)) state_is
                  ∙ ap (with_files kernel) (moved_twice files fd d there stands to)
                  ∙ sym (ap (λ (c : Did Files (List Entry)). with_files kernel c.state) program_is');
              given = subst (λ (c : Did Files (List Entry)). IsGiven words c.came answer) (sym program_is') (record { outcome = is.outcome; bytes = is.bytes });
            }

        -- it gave none, as the first has no room
        stays_long : (entry : Entry) (rest : List Entry) → found ≡ entry ∷ rest → fitting entry_records twice found ≡ [] → entries_refusal entry_records twice found ≡ Some EINVAL → Stays
        stays_long entry rest is nothing' wrong =
            let files : Files = kernel.files in
            let refused_native : native_did ≡ refused kernel EINVAL = native_is ∙ ap (on_files kernel) (given_none files fd d twice found wrong) in
            let came_is : came_by size room found ≡ Refused EINVAL
            = sym (came_asked d.position size asked room found asks all) ∙ ap (came_by asked room) is
            ∙ came_refused asked twice room entry rest (omega arith) (sym (ap (fitting entry_records twice) is) ∙ nothing') in
            stays_refused EINVAL refused_native (moved_to files fd d (position_after d.position (listed_of (came_by size room found))))
            (program_is' ∙ ap (λ (c : Came (List Entry)). record { state = moved_to files fd d (position_after d.position (listed_of (came_by size room found))); came = c }) came_is)
            (ap (λ (c : Came (List Entry)). moved_to files fd d (position_after d.position (listed_of c))) came_is ∙ moved_nowhere files fd d there)

        program_none : found ≡ [] → program_did ≡ done (moved_to kernel.files fd d d.position) []
        program_none is =
            let came_is : came_by size room found ≡ Done [] = ap (came_by size room) is ∙ ap (λ (b : Bool). if b then Refused EFAULT else Done []) (not_long room 0 (omega arith)) in
            program_is' ∙ ap (λ (c : Came (List Entry)). record { state = moved_to kernel.files fd d (position_after d.position (listed_of c)); came = c }) came_is

        native_empty : found ≡ [] → native_did ≡ done (with_files kernel (moved_to kernel.files fd d d.position)) []
        native_empty is = native_is ∙ ap (λ (l : List Entry). on_files kernel (give_entries kernel.files fd d entry_records twice twice l)) is ∙ ap (on_files kernel) (given_all kernel.files fd d twice [] refl)

        by_first : (entry : Entry) (rest : List Entry) → found ≡ entry ∷ rest → position ≡ d.position → d.position < 2 ^ 31 → (given : List Entry) → fitting entry_records twice found ≡ given → Stays ⊎ Moves
        by_first entry rest is at small [] nothing' =
            inl (stays_long entry rest is nothing' (ap (entries_refusal entry_records twice) is ∙ native_none twice entry rest (ap (fitting entry_records twice) (sym is) ∙ nothing')))
        by_first entry rest is at small (first ∷ more) given =
            inr (moves first more given (ap (entries_refusal entry_records twice) is ∙ native_some twice entry rest first more (ap (fitting entry_records twice) (sym is) ∙ given)) at small)

        -- behind a position that lseek(2) tells
        place_is : (before : Option ℕ) → before ≡ place_there (opened kernel.files fd) → d.position < 2 ^ 31 → unwrap_or before 0 ≡ d.position
        place_is before told small =
            let within : nat_le d.position greatest_size ≡ true = grind (arith, nat_tests) in
            let is : before ≡ Some d.position
            = told ∙ ap place_there there ∙ ap (place_of d) is_node ∙ ap (λ (b : Bool). if b then Some d.position else None) within in
            ap (λ (o : Option ℕ). unwrap_or o 0) is

        settle_by : (before : Option ℕ) → before ≡ place_there (opened kernel.files fd) → position ≡ unwrap_or before 0 → (l : List Entry) → found ≡ l → Stays ⊎ Moves
        settle_by before told at [] is = inl (stays_empty (moved_to kernel.files fd d d.position) (native_empty is) (program_none is))
        settle_by before told at (entry ∷ rest) is =
            let first = (subst (AreListed d.position) is all).0 in
            let small : d.position < 2 ^ 31 = let b = first.behind in let c = first.cookie in omega (arith, b, c) in
            by_first entry rest is (at ∙ place_is before told small) small (fitting entry_records twice found) refl

    pub settle : IsFileSystem kernel.files.nodes → (asked ≡ size) ⊎ ((asked ≤ size) × (room + 268 ≤ asked)) → (before : Option ℕ) → before ≡ place_there (opened kernel.files fd) → position ≡ unwrap_or before 0 → Stays ⊎ Moves
    settle valid asks before told at = by (found_at kernel.files fd valid) where
      by : Refuses kernel.files fd ⊎ Gives kernel.files fd → Stays ⊎ Moves
      by (inl r) = inl (stays_refused r.error (ap (on_files kernel) (r.refuses entry_records twice twice)) kernel.files (r.refuses narrow size room) refl)
      by (inr g) =
          settle_by asks g.description g.node g.open' g.is_node g.behind g.listed (ap (on_files kernel) (g.gives entry_records twice twice)) (g.gives narrow size room)
          before told at g.behind refl
