-- A mapping of a file by its cases: refused, or at its place with the file's bytes.
use Rattle.std.proofs.Common.{◌≡◌, ◌≤◌, ◌+◌, ◌-◌, ◌*◌, ◌/◌, ℕ, zero, suc, Bool, true, false, List, [], Option, Some, None, Result, Ok, Err, IsErr, refl, sym, ap, subst, ◌∙◌, arith}
use Rattle.std.specs.FinMap.{get, len}
use Rattle.std.specs.Prelude.{is_some, nat_le, option_and_then, if◌then◌else◌}
use Rattle.guest_space.proofs.MappingLemmas.{mapped_run-step, mapped_run-zero}
use Rattle.guest_space.proofs.Prefixes.{below_end, refusal-page}
use Rattle.guest_space.specs.Access.{page_refusal, refusal}
use Rattle.guest_space.specs.Bytes.{copied_out, with_bytes}
use Rattle.guest_space.specs.Mapping.{absent_count, mapped_run, page_limit, with_protection, with_zeros}
use Rattle.guest_space.specs.Memory.{MappedPage, Memory, Pages}
use Rattle.guest_space.specs.declared.access.Access.TheVariants.{Store}
use Rattle.kernel_core.specs.FileContent.{FileContent}
use Rattle.kernel_core.specs.Nodes.{Directory, File, Link, NodeContent, file_at, file_in}
use Rattle.kernel_core.specs.declared.core_error.Stop.{Stop}
use Rattle.kernel_core.specs.declared.error.Errno.{Errno}
use Rattle.kernel_core.specs.declared.error.Errno.TheVariants.{EACCES, EBADF, ENODEV, ENOMEM}
use Rattle.kernel_core.specs.declared.log_entry.LogEntry.{LogEntry}
use Rattle.kernel_core.specs.declared.map_flags.MapFlags.{MapFlags}
use Rattle.kernel_core.specs.declared.map_flags.MapKind.{MapKind}
use Rattle.kernel_core.specs.declared.map_flags.MapKind.TheVariants.{Private, Shared}
use Rattle.kernel_model.specs.Came.{Did, Given, done, refused, with_given, with_some}
use Rattle.kernel_model.specs.Descriptions.{content_at, node_of, opened, reads}
use Rattle.kernel_model.specs.State.{Files, Kernel}
use Rattle.kernel_model.specs.Transfers.{file_bytes}
use Rattle.kernel_model.specs.declared.descriptor.Description.{Description}
use Rattle.native_calls.specs.History.{opening}
use Rattle.o32_model.specs.Logs.{Kept}
use Rattle.o32_model.specs.Mappings.{content_of, mappable, mapped, place_for, shown}
use Rattle.o32_model.specs.Ranges.{page_size, with_new_pages}
use Rattle.o32_model.specs.Step.{failure, outcome_of, value}
use Rattle.o32_model.specs.declared.call_words.CallWords.{CallWords}
use Rattle.o32_model.specs.declared.outcome.Outcome.{Outcome}
use Rattle.outside.specs.Streams.{Contents}
use Rattle.bridge_log.specs.Keeping.{Logged}
use Rattle.bridge_map.proofs.Journal.{leads_none, leads_then}
use Rattle.bridge_map.proofs.Looking.{file_found}
use Rattle.bridge_map.proofs.Pieces.{storable_after}
use Rattle.bridge_map.proofs.Protecting.{written_protected, zeros_storable}
use Rattle.bridge_map.proofs.Quietly.{quiet_then, silent_after}
use Rattle.bridge_map.specs.Rows.{Leads, MapsPages, asked_for, placed}
use Rattle.bridge_map.specs.declared.asked.Asked.{Asked}
use Rattle.bridge_map.specs.Shown.{AreStorable, Filled, Judged, Mapped, Maps, Quiet, Silent, access_error, file_error, file_of}

-- What was found of the file

access_refused : (files : Files) (kind : MapKind) (there : Option Description) (error : Errno) → access_error there ≡ Some error → content_of files kind there ≡ Err error
access_refused files kind None error is = ap Err (let e : EBADF ≡ error = cc in e)
access_refused files kind (Some description) error is = by_access (reads description.flags.access) is
  where
    by_access : (b : Bool) → (if b then None else Some EACCES) ≡ Some error → (if b then mappable kind (file_of files description) else Err EACCES) ≡ Err error
    by_access true is = absurd (cc)
    by_access false is = ap Err (let e : EACCES ≡ error = cc in e)

-- a descriptor that may be read is open
pub readable_there : (there : Option Description) → access_error there ≡ None → (description : Description) × (there ≡ Some description) × (reads description.flags.access ≡ true)
readable_there None is = absurd (cc)
readable_there (Some description) is = (description, refl, by_access (reads description.flags.access) is)
  where
    by_access : (b : Bool) → (if b then None else Some EACCES) ≡ None → b ≡ true
    by_access true is = refl
    by_access false is = absurd (cc)

content_readable : (files : Files) (kind : MapKind) (there : Option Description) (description : Description) → there ≡ Some description → reads description.flags.access ≡ true
    → content_of files kind there ≡ mappable kind (file_of files description)
content_readable files kind there description is may_read =
    ap (content_of files kind) is ∙ ap (λ (b : Bool). if b then mappable kind (file_of files description) else Err EACCES) may_read

shared_refused : (content : Option FileContent) → mappable Shared content ≡ Err ENODEV
shared_refused None = refl
shared_refused (Some content) = refl

pub judged_access : (files : Files) (kind : MapKind) (fd : ℕ) (error : Errno) → access_error (opened files fd) ≡ Some error → Judged files kind fd (Some error)
judged_access files kind fd error is = access_refused files kind (opened files fd) error is

module _ (files : Files) (fd : ℕ) (description : Description) (there : opened files fd ≡ Some description) (may_read : reads description.flags.access ≡ true) where
  pub judged_shared : Judged files Shared fd (Some ENODEV)
  judged_shared = content_readable files Shared (opened files fd) description there may_read ∙ shared_refused (file_of files description)

  no_file_found : (content : Option FileContent) (error : Errno) → file_error content ≡ Some error → mappable Private content ≡ Err error
  no_file_found None error is = ap Err (let e : ENODEV ≡ error = cc in e)
  no_file_found (Some content) error is = absurd (cc)

  pub judged_no_file : (error : Errno) → file_error (file_of files description) ≡ Some error → Judged files Private fd (Some error)
  judged_no_file error is = content_readable files Private (opened files fd) description there may_read ∙ no_file_found (file_of files description) error is

  file_there : (content : Option FileContent) → file_error content ≡ None → (found : FileContent) × (content ≡ Some found)
  file_there None is = absurd (cc)
  file_there (Some content) is = (content, refl)

  node_there : (node : Option ℕ) (content : FileContent) → option_and_then (file_at files.nodes) node ≡ Some content
      → (number : ℕ) × (node ≡ Some number) × (content_at files.nodes number ≡ Some (File content))
  node_there None content is = absurd (cc)
  node_there (Some number) content is = (number, refl, by_content (content_at files.nodes number) (sym (file_found (get files.nodes number)) ∙ is))
    where
      by_content : (there : Option NodeContent) → option_and_then file_in there ≡ Some content → there ≡ Some (File content)
      by_content None is = absurd (cc)
      by_content (Some (File found)) is = ap (λ (c : FileContent). Some (File c)) (let e : found ≡ content = cc in e)
      by_content (Some (Directory listing)) is = absurd (cc)
      by_content (Some (Link target)) is = absurd (cc)

  pub judged_file : file_error (file_of files description) ≡ None → Judged files Private fd None
  judged_file is =
      let found = file_there (file_of files description) is in
      let node = node_there (node_of description.object) found.0 found.1 in (
        found.0,
        content_readable files Private (opened files fd) description there may_read ∙ ap (mappable Private) found.1,
        record { description = description; there = there; may_read = may_read; node = node.0; node_is = node.1; file = node.2 },
      )

  pub judged_by : (answer : Option Errno) → answer ≡ file_error (file_of files description) → Judged files Private fd answer
  judged_by None is = judged_file (sym is)
  judged_by (Some error) is = judged_no_file error (sym is)

-- Refusals leave all as it was.

pub refused_mapped : (did : Did Memory ℕ) (words : CallWords) (error : Errno) (kernel became : Kernel) (left : List ℕ) (before after : Contents) (memory : Memory) (old new : Kept)
    → did ≡ refused memory error → Quiet kernel became left before after old.native new.native → new.effects ≡ old.effects
    → Mapped did words (failure error) kernel became left before after memory memory old new
refused_mapped did words error kernel became left before after memory old new is quiet same = record {
  came = ap (λ (d : Did Memory ℕ). outcome_of value words d.came) (sym is);
  stored = ap (λ (d : Did Memory ℕ). d.state) (sym is);
  quiet = quiet;
  effects = subst (λ e. Leads old.effects e memory.pages memory.pages) (sym same) (leads_none old.effects memory.pages);
}

-- Places

module _ (memory : Memory) (flags : MapFlags) (address count protection : ℕ) (bytes : List ℕ) where
  pub not_placed : (error : Errno) → place_for memory.pages flags address count ≡ Err error → placed memory flags address count protection bytes ≡ refused memory error
  not_placed error is = ap (λ (g : Given ℕ). with_given memory g (λ first. mapped memory first count protection bytes)) is

  pub placed_at : (first : ℕ) → place_for memory.pages flags address count ≡ Ok first → placed memory flags address count protection bytes ≡ mapped memory first count protection bytes
  placed_at first is = ap (λ (g : Given ℕ). with_given memory g (λ (first : ℕ). mapped memory first count protection bytes)) is

-- New pages with leave to write, and those of the mapping, are as many.

fits : Pages → ℕ → ℕ → Bool
fits pages first count = nat_le (len pages + absent_count pages first count) page_limit

module _ (pages : Pages) (first count : ℕ) where
  full_by : (b : Bool) (one other : Pages) → (if b then Some one else None) ≡ None → (if b then Some other else None) ≡ None
  full_by true one other is = absurd (cc)
  full_by false one other is = refl

  pub full_alike : (one other : ℕ) → with_new_pages pages first count one ≡ None → with_new_pages pages first count other ≡ None
  full_alike one other is = full_by (nat_le (len pages + absent_count pages first count) page_limit) (with_zeros pages first count one) (with_zeros pages first count other) is

  room_by : (b : Bool) (one other after : Pages) → (if b then Some one else None) ≡ Some after → (after ≡ one) × ((if b then Some other else None) ≡ Some other)
  room_by true one other after is = (let e : after ≡ one = cc in e, refl)
  room_by false one other after is = absurd (cc)

  pub room_alike : (one other : ℕ) (after : Pages) → with_new_pages pages first count one ≡ Some after
      → (after ≡ with_zeros pages first count one) × (with_new_pages pages first count other ≡ Some (with_zeros pages first count other))
  room_alike one other after is = room_by (nat_le (len pages + absent_count pages first count) page_limit) (with_zeros pages first count one) (with_zeros pages first count other) after is

pub not_mapped : (memory : Memory) (first count protection : ℕ) (bytes : List ℕ) → with_new_pages memory.pages first count protection ≡ None → mapped memory first count protection bytes ≡ refused memory ENOMEM
not_mapped memory first count protection bytes is =
    ap (λ (o : Option Pages). with_some memory ENOMEM o (λ (pages : Pages). done (copied_out (record memory { pages = pages }) (first * page_size) bytes) (first * page_size))) is

-- Pages that can be stored to are mapped.

found_by : (found : Option MappedPage) → page_refusal Store found ≡ None → is_some found ≡ true
found_by None free = absurd (cc)
found_by (Some page) free = refl

pub all_mapped : (pages : Pages) (count first : ℕ) → AreStorable pages (first * 4096) (count * 4096) → mapped_run pages first count ≡ count
all_mapped pages zero first free = mapped_run-zero pages first
all_mapped pages (suc count) first free =
    let here : refusal Store pages (first * 4096) ≡ None = ap (refusal Store pages) (let e : first * 4096 ≡ first * 4096 + 0 = omega arith in e) ∙ free 0 (omega arith) in
    let low = below_end Store pages (first * 4096) here in
    let number : first * 4096 / 4096 ≡ first = omega arith in
    let there : is_some (get pages first) ≡ true =
    ap (λ (n : ℕ). is_some (get pages n)) (sym number) ∙ found_by (get pages (first * 4096 / 4096)) (sym (refusal-page Store pages (first * 4096) low) ∙ here) in
    let rest = all_mapped pages count (first + 1) (λ j below.
    ap (refusal Store pages) (let e : (first + 1) * 4096 + j ≡ first * 4096 + (4096 + j) = omega arith in e) ∙ free (4096 + j) (omega arith)) in
    let last : mapped_run pages (first + 1) (suc count - 1) ≡ mapped_run pages (first + 1) count = ap (mapped_run pages (first + 1)) (let e : suc count - 1 ≡ count = omega arith in e) in
    mapped_run-step pages first (suc count) there (omega arith) ∙ omega (arith, rest, last)

-- The mapping as it was made

module _ (memory : Memory) (first count protection : ℕ) (bytes : List ℕ) (inside : first + count ≤ 524280) where
  pub new_storable : (blank : Memory) → blank ≡ record memory { pages = with_zeros memory.pages first count 3 } → AreStorable blank.pages (first * 4096) (count * 4096)
  new_storable blank is = λ j below. ap (λ (m : Memory). refusal Store m.pages (first * 4096 + j)) is ∙ zeros_storable memory.pages first count j inside below

  module _ (blank filled now : Memory) (run : ℕ) (is_blank : blank ≡ record memory { pages = with_zeros memory.pages first count 3 }) (is_filled : filled ≡ copied_out blank (first * 4096) bytes)
      (run_is : run ≡ mapped_run filled.pages first count) (is_now : now ≡ record filled { pages = with_protection filled.pages first run protection }) where
    whole_run : run ≡ count
    whole_run = run_is ∙ all_mapped filled.pages count first (storable_after blank filled (first * 4096) bytes (first * 4096) (count * 4096) is_filled (new_storable blank is_blank))

    pub made : now ≡ copied_out (record memory { pages = with_zeros memory.pages first count protection }) (first * 4096) bytes
    unfolding copied_out
    made =
        is_now
        ∙ ap (λ (n : ℕ). record filled { pages = with_protection filled.pages first n protection }) whole_run
        ∙ ap (λ (m : Memory). record m { pages = with_protection m.pages first count protection }) is_filled
        ∙ ap (λ (m : Memory). record m { pages = with_protection (with_bytes m.pages (first * 4096) bytes) first count protection }) is_blank
        ∙ ap (λ (p : Pages). record memory { pages = p }) (written_protected memory.pages first count 3 protection (first * 4096) bytes)

pub mapped_is : (memory : Memory) (first count protection : ℕ) (bytes : List ℕ) → with_new_pages memory.pages first count protection ≡ Some (with_zeros memory.pages first count protection)
    → mapped memory first count protection bytes ≡ done (copied_out (record memory { pages = with_zeros memory.pages first count protection }) (first * page_size) bytes) (first * page_size)
mapped_is memory first count protection bytes is =
    ap (λ (o : Option Pages). with_some memory ENOMEM o (λ (pages : Pages). done (copied_out (record memory { pages = pages }) (first * page_size) bytes) (first * page_size))) is

pub done_mapped : (did : Did Memory ℕ) (words : CallWords) (number : ℕ) (kernel became : Kernel) (left : List ℕ) (before after : Contents) (start after_it now : Memory) (old new : Kept)
    → did ≡ done after_it number → now ≡ after_it → Quiet kernel became left before after old.native new.native → Leads old.effects new.effects start.pages now.pages
    → Mapped did words (value number) kernel became left before after start now old new
done_mapped did words number kernel became left before after start after_it now old new is became_it quiet effects = record {
  came = ap (λ (d : Did Memory ℕ). outcome_of value words d.came) (sym is);
  stored = became_it ∙ ap (λ (d : Did Memory ℕ). d.state) (sym is);
  quiet = quiet;
  effects = effects;
}

-- Early ends, and what was done before

pub maps_stop : (did : Did Memory ℕ) (words : CallWords) (result : Result Outcome Stop) (kernel became : Kernel) (left : List ℕ) (before after : Contents) (start now : Memory) (old new : Kept)
    → IsErr result → Silent before after → Maps did words result kernel became left before after start now old new
maps_stop did words (Ok outcome) kernel became left before after start now old new failed silent = absurd cc
maps_stop did words (Err stop) kernel became left before after start now old new failed silent = silent

pub maps_as : (did other : Did Memory ℕ) (words : CallWords) (result : Result Outcome Stop) (kernel became : Kernel) (left : List ℕ) (before after : Contents) (start now : Memory) (old new : Kept)
    → did ≡ other → Maps other words result kernel became left before after start now old new → Maps did words result kernel became left before after start now old new
maps_as did other words result kernel became left before after start now old new is maps =
    subst (λ (d : Did Memory ℕ). Maps d words result kernel became left before after start now old new) (sym is) maps

pub maps_after : (did : Did Memory ℕ) (words : CallWords) (result : Result Outcome Stop) (kernel between became : Kernel) (left : List ℕ) (before middle after : Contents) (start now : Memory) (old kept new : Kept)
    → Quiet kernel between left before middle old.native kept.native → kept.effects ≡ old.effects
    → Maps did words result between became left middle after start now kept new → Maps did words result kernel became left before after start now old new
maps_after did words (Ok outcome) kernel between became left before middle after start now old kept new quiet same m = record {
  came = m.came;
  stored = m.stored;
  quiet = quiet_then quiet m.quiet;
  effects = subst (λ e. Leads e new.effects start.pages now.pages) same m.effects;
}
maps_after did words (Err stop) kernel between became left before middle after start now old kept new quiet same silent = silent_after quiet.same silent

-- The row of a file, by what was found of it

module _ (files : Files) (memory : Memory) (asked : Asked) (file : asked.flags.anonymous ≡ false) where
  of_file : asked_for files memory asked ≡ with_given memory (shown asked.offset asked.count (content_of files asked.flags.kind (opened files asked.fd))) (λ bytes.
      placed memory asked.flags asked.address asked.count asked.protection bytes)
  of_file =
      ap (λ (b : Bool). with_given memory (if b then Ok [] else shown asked.offset asked.count (content_of files asked.flags.kind (opened files asked.fd))) (λ bytes.
      placed memory asked.flags asked.address asked.count asked.protection bytes)) file

  pub file_refused : (error : Errno) → content_of files asked.flags.kind (opened files asked.fd) ≡ Err error → asked_for files memory asked ≡ refused memory error
  file_refused error is =
      of_file ∙ ap (λ (g : Given FileContent). with_given memory (shown asked.offset asked.count g) (λ bytes. placed memory asked.flags asked.address asked.count asked.protection bytes)) is

  pub file_placed : (content : FileContent) → content_of files asked.flags.kind (opened files asked.fd) ≡ Ok content
      → asked_for files memory asked ≡ placed memory asked.flags asked.address asked.count asked.protection (file_bytes content asked.offset (asked.count * page_size))
  file_placed content is =
      of_file ∙ ap (λ (g : Given FileContent). with_given memory (shown asked.offset asked.count g) (λ bytes. placed memory asked.flags asked.address asked.count asked.protection bytes)) is

-- The mapping, from what each step of it said

pub blank_is : (memory blank : Memory) (first count : ℕ) → MapsPages true memory.pages blank.pages first count 3 → blank ≡ record memory { pages = blank.pages }
    → blank ≡ record memory { pages = with_zeros memory.pages first count 3 }
blank_is memory blank first count answer others = others ∙ ap (λ (p : Pages). record memory { pages = p }) (room_alike memory.pages first count 3 3 blank.pages answer).0

pub made_mapped : (memory blank filled now : Memory) (first count protection run : ℕ) (bytes : List ℕ) (words : CallWords) (kernel became : Kernel) (left : List ℕ) (before after : Contents) (old mapping filling new : Kept) → first + count ≤ 524280
    → MapsPages true memory.pages blank.pages first count 3 → blank ≡ record memory { pages = blank.pages } → mapping.native ≡ old.native → Leads old.effects mapping.effects memory.pages blank.pages
    → Filled kernel became left before after blank filled mapping filling (first * 4096) bytes
    → run ≡ mapped_run filled.pages first count → now ≡ record filled { pages = with_protection filled.pages first run protection } → new.native ≡ filling.native → Leads filling.effects new.effects filled.pages now.pages
    → Mapped (mapped memory first count protection bytes) words (value (first * 4096)) kernel became left before after memory now old new
made_mapped memory blank filled now first count protection run bytes words kernel became left before after old mapping filling new inside answer others before_same mapped_leads fill run_is now_is after_same protected_leads =
    let is_blank = blank_is memory blank first count answer others in
    done_mapped (mapped memory first count protection bytes) words (first * 4096) kernel became left before after memory
    (copied_out (record memory { pages = with_zeros memory.pages first count protection }) (first * 4096) bytes) now old new
    (mapped_is memory first count protection bytes (room_alike memory.pages first count 3 protection blank.pages answer).1)
    (made memory first count protection bytes inside blank filled now run is_blank fill.stored run_is now_is)
    (record {
      stays = fill.quiet.stays;
      same = fill.quiet.same;
      logged =
          subst (λ (n : Option (List LogEntry)). Logged n new.native (opening kernel left) (opening kernel left)) before_same
          (subst (λ (n : Option (List LogEntry)). Logged mapping.native n (opening kernel left) (opening kernel left)) (sym after_same) fill.quiet.logged);
    })
    (leads_then _ _ _ _ _ _ (leads_then _ _ _ _ _ _ mapped_leads fill.effects) protected_leads)
