-- How long frames are, and that a frame holds the low words of an alternate stack.
use Rattle.std.proofs.Common.{◌≡◌, ℕ, suc, ◌+◌, ◌/◌, ◌%◌, Bool, true, false, List, [], ◌∷◌, ◌++◌, length, map, replicate, take, drop, ℤ, pos, refl, sym, ap, ◌∙◌, arith, All, append_assoc}
use Rattle.std.specs.Prelude.{◌==◌, if◌then◌else◌}
use Rattle.std.proofs.lemmas.List.{length-replicate}
use Rattle.layouts.proofs.RecordLaws.{length-with_value}
use Rattle.layouts.proofs.SoundTables.{sound_from_test}
use Rattle.layouts.specs.declared.field.Field.{Field}
use Rattle.layouts.specs.Frames.{AlternateStack, Context, Information, context_values, frame_bytes, rt_frame_bytes, siginfo_of, siginfo_values}
use Rattle.layouts.specs.Number.{IsPlaced, no_field, with_value}
use Rattle.layouts.specs.O32.{frame, rt_frame_of, siginfo, siginfo_fault, ucontext}
use Rattle.layouts.specs.Shape.{Shape, moved, record_bytes, with_values, word}

-- Lengths

length-with_values : (big : Bool) (size : ℕ) (fields : List Field) (values : List ℤ) (bytes : List ℕ) → length bytes ≡ size → All (IsPlaced size) fields
    → length (with_values big fields values bytes) ≡ size
length-with_values big size [] values bytes whole placed = whole
length-with_values big size (field ∷ fields) [] bytes whole placed = whole
length-with_values big size (field ∷ fields) (value ∷ values) bytes whole placed =
    let first : IsPlaced size field = placed 0 no_field (omega arith) in
    let here : IsPlaced (length bytes) field = rw whole first in
    length-with_values big size fields values (with_value big field value bytes) (length-with_value big field value bytes here ∙ whole)
    (λ k d below. placed (suc k) d (omega arith))

length-record_bytes : (shape : Shape) (values : List ℤ) → All (IsPlaced shape.size) shape.fields → length (record_bytes shape values) ≡ shape.size
length-record_bytes shape values placed = length-with_values shape.big shape.size shape.fields values (replicate shape.size 0) (length-replicate shape.size 0) placed

pub length-frame_bytes : (context : Context) (mask : List ℕ) → length (frame_bytes context mask) ≡ 632
unfolding frame_bytes
length-frame_bytes context mask = length-record_bytes frame (context_values context ++ map pos mask) (sound_from_test frame refl).placed

rt_placed : (sent : Bool) → All (IsPlaced 784) (rt_frame_of (if sent then siginfo else siginfo_fault)).fields
rt_placed true = (sound_from_test (rt_frame_of siginfo) refl).placed
rt_placed false = (sound_from_test (rt_frame_of siginfo_fault) refl).placed

pub length-rt_frame_bytes : (info : Information) (stack : AlternateStack) (context : Context) (mask : List ℕ) → length (rt_frame_bytes info stack context mask) ≡ 784
unfolding rt_frame_bytes
length-rt_frame_bytes info stack context mask = length-record_bytes (rt_frame_of (siginfo_of info)) _ (rt_placed (info.address == 0))

-- Low words

low_bytes : (number : ℕ) → number / 16777216 % 256 ∷ number / 65536 % 256 ∷ number / 256 % 256 ∷ number % 256 ∷ []
    ≡ number % 4294967296 / 16777216 % 256 ∷ number % 4294967296 / 65536 % 256 ∷ number % 4294967296 / 256 % 256 ∷ number % 4294967296 % 256 ∷ []
low_bytes number =
    let a : number / 16777216 % 256 ≡ number % 4294967296 / 16777216 % 256 = omega arith in
    let b : number / 65536 % 256 ≡ number % 4294967296 / 65536 % 256 = omega arith in
    let c : number / 256 % 256 ≡ number % 4294967296 / 256 % 256 = omega arith in
    let d : number % 256 ≡ number % 4294967296 % 256 = omega arith in
    cc

-- a field of four bytes holds the low word
low_value : (offset number : ℕ) (bytes : List ℕ) → with_value true (word offset) (pos number) bytes ≡ with_value true (word offset) (pos (number % 4294967296)) bytes
low_value offset number bytes = ap (λ (middle : List ℕ). (take offset bytes ++ middle) ++ drop (offset + 4) bytes) (low_bytes number)

low_values : (fields : List Field) (values : List ℤ) (at behind : ℕ) (more : List Field) (others : List ℤ) (sp size : ℕ) (bytes : List ℕ) → length values ≡ length fields
    → with_values true (fields ++ word at ∷ word behind ∷ more) (values ++ pos sp ∷ pos size ∷ others) bytes
    ≡ with_values true (fields ++ word at ∷ word behind ∷ more) (values ++ pos (sp % 4294967296) ∷ pos (size % 4294967296) ∷ others) bytes
low_values [] [] at behind more others sp size bytes count =
    ap (λ (b : List ℕ). with_values true more others (with_value true (word behind) (pos size) b)) (low_value at sp bytes)
    ∙ ap (λ (b : List ℕ). with_values true more others b) (low_value behind size (with_value true (word at) (pos (sp % 4294967296)) bytes))
low_values [] (value ∷ values) at behind more others sp size bytes count = absurd (omega arith)
low_values (field ∷ fields) [] at behind more others sp size bytes count = absurd (omega arith)
low_values (field ∷ fields) (value ∷ values) at behind more others sp size bytes count =
    low_values fields values at behind more others sp size (with_value true field value bytes) (omega arith)

-- the fields and the values of a siginfo
length-siginfo : (sent : Bool) (info : Information)
    → length (pos info.signo ∷ info.code ∷ info.errno ∷ (if sent then pos info.pid ∷ pos info.uid ∷ pos info.value ∷ [] else pos info.address ∷ []))
    ≡ length (moved 24 (if sent then siginfo else siginfo_fault).fields)
length-siginfo true info = refl
length-siginfo false info = refl

together : (a b c d : List ℤ) → ((a ++ b) ++ c) ++ d ≡ a ++ (b ++ (c ++ d))
together a b c d = append_assoc (a ++ b) c d ∙ append_assoc a b (c ++ d)

pub low_words : (info : Information) (sp size flags : ℕ) (context : Context) (mask : List ℕ)
    → rt_frame_bytes info (record { sp = sp; size = size; flags = flags }) context mask
    ≡ rt_frame_bytes info (record { sp = sp % 4294967296; size = size % 4294967296; flags = flags }) context mask
unfolding rt_frame_bytes
low_words info sp size flags context mask =
    let shape = rt_frame_of (siginfo_of info) in
    let front = siginfo_values info in
    let rest = context_values context ++ map pos mask in
    ap (λ (values : List ℤ). record_bytes shape values) (together front (pos sp ∷ pos size ∷ pos flags ∷ []) (context_values context) (map pos mask))
    ∙ low_values (moved 24 (siginfo_of info).fields) front 160 164 (drop 2 (moved 152 ucontext.fields)) (pos flags ∷ rest) sp size (replicate 784 0) (length-siginfo (info.address == 0) info)
    ∙ sym (ap (λ (values : List ℤ). record_bytes shape values) (together front (pos (sp % 4294967296) ∷ pos (size % 4294967296) ∷ pos flags ∷ []) (context_values context) (map pos mask)))
