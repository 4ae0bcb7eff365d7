-- Judging load headers one after the other.
use Rattle.std.proofs.Common.{◌≡◌, ℕ, ◌+◌, ◌%◌, ◌<◌, ◌≤◌, Bool, true, false, cond, not, ◌&&◌, ◌||◌, ◌==◌, Option, Some, None, List, [], ◌∷◌, ◌++◌, nat_lt, length, map, take, drop, get_or, refl, sym, subst, ap, ◌∙◌, arith}
use Rattle.std.specs.List.{list_any}
use Rattle.std.specs.Ordering.{nat_cmp}
use Rattle.std.specs.BTreeMap.{insert_entry}
use Rattle.std.proofs.lemmas.Bool.Decides.{nat_tests}
use Rattle.std.proofs.lemmas.List.{map-append, drop_more, take_more}
use Rattle.elf_image.specs.Span.{Span, overlaps, pages_touched}
use Rattle.elf_image.specs.inside.Taken.{entry_spans, AreApart, SameSpans}
use Rattle.elf_image.specs.Fields.{span_of}
use Rattle.elf_image.specs.Rules.{first_broken, load_rules, loads_rules, whole_rules, IsCause}
use Rattle.elf_image.specs.declared.program_header.ProgramHeader.{ProgramHeader}
use Rattle.elf_image.specs.declared.refusal.ElfError.{ElfError}
use Rattle.elf_image.specs.declared.refusal.ElfError.TheVariants.{Refused, NoMemory}
use Rattle.elf_image.specs.declared.refusal.ElfRefusal.{ElfRefusal}
use Rattle.elf_image.proofs.Parts.{apart-insert, same-insert}
use Rattle.elf_image.specs.declared.refusal.ElfRefusal.TheVariants.{Outside, Sizes, Address, Offset, Overlap, NoLoad, Pages}

-- where no rule of the first list is broken, the others decide
pub broken-append-none : (a b : List (ElfRefusal × Bool)) → first_broken a ≡ None → first_broken (a ++ b) ≡ first_broken b
broken-append-none [] b h = refl
broken-append-none (rule ∷ a) b h = split rule.1 (first_broken a) h (λ g. broken-append-none a b g)
  where
    split : (c : Bool) (r : Option ElfRefusal) → cond c (Some rule.0) r ≡ None → (r ≡ None → first_broken (a ++ b) ≡ first_broken b) → cond c (Some rule.0) (first_broken (a ++ b)) ≡ first_broken b
    split true r h ih = cc
    split false r h ih = ih h

-- where one of them is, it decides
pub broken-append-some : (a b : List (ElfRefusal × Bool)) (r : ElfRefusal) → first_broken a ≡ Some r → first_broken (a ++ b) ≡ Some r
broken-append-some [] b r h = cc
broken-append-some (rule ∷ a) b r h = split rule.1 (first_broken a) h (λ g. broken-append-some a b r g)
  where
    split : (c : Bool) (f : Option ElfRefusal) → cond c (Some rule.0) f ≡ Some r → (f ≡ Some r → first_broken (a ++ b) ≡ Some r) → cond c (Some rule.0) (first_broken (a ++ b)) ≡ Some r
    split true f h ih = h
    split false f h ih = ih h

-- the rules of a header see of the earlier memory only what it overlaps
pub load-same : (size : ℕ) (spans : List Span) (es : List (ℕ × ℕ)) (h : ProgramHeader) → SameSpans spans es → first_broken (load_rules size spans h) ≡ first_broken (load_rules size (entry_spans es) h)
load-same size spans es h same =
    ap (λ (b : Bool). first_broken ((Outside, nat_lt 0 h.filesz && nat_lt size (h.offset + h.filesz)) ∷ (Sizes, nat_lt h.memsz h.filesz) ∷ (Address, nat_lt h.vaddr 0x1000 || nat_lt 0x7F7F0000 (h.vaddr + h.memsz)) ∷ (Offset, not (h.offset % 4096 == h.vaddr % 4096)) ∷ (Overlap, b) ∷ [])) (same (overlaps (span_of h)))

-- a header that breaks no rule
pub record Keeps (size : ℕ) (spans : List Span) (h : ProgramHeader) : Type 0 where
  pub inside : 0 < h.filesz → h.offset + h.filesz ≤ size
  pub sizes : h.filesz ≤ h.memsz
  pub low : 4096 ≤ h.vaddr
  pub high : h.vaddr + h.memsz ≤ 0x7F7F0000
  pub free : list_any (overlaps (span_of h)) spans ≡ false

pub keeps : (size : ℕ) (spans : List Span) (h : ProgramHeader) → first_broken (load_rules size spans h) ≡ None → Keeps size spans h
keeps size spans h none = split (nat_lt 0 h.filesz) (nat_lt size (h.offset + h.filesz)) (nat_lt h.memsz h.filesz) (nat_lt h.vaddr 0x1000) (nat_lt 0x7F7F0000 (h.vaddr + h.memsz)) (h.offset % 4096 == h.vaddr % 4096) (list_any (overlaps (span_of h)) spans) refl refl refl refl refl refl none
  where
    split : (z a b c d e f : Bool) → nat_lt 0 h.filesz ≡ z → nat_lt size (h.offset + h.filesz) ≡ a → nat_lt h.memsz h.filesz ≡ b → nat_lt h.vaddr 0x1000 ≡ c → nat_lt 0x7F7F0000 (h.vaddr + h.memsz) ≡ d → list_any (overlaps (span_of h)) spans ≡ f → first_broken ((Outside, z && a) ∷ (Sizes, b) ∷ (Address, c || d) ∷ (Offset, not e) ∷ (Overlap, f) ∷ []) ≡ None → Keeps size spans h
    split true true b c d e f o p q r s t none = cc
    split true false true c d e f o p q r s t none = cc
    split true false false true d e f o p q r s t none = cc
    split true false false false true e f o p q r s t none = cc
    split true false false false false false f o p q r s t none = cc
    split true false false false false true true o p q r s t none = cc
    split true false false false false true false o p q r s t none = record {
      inside = λ some. grind (arith, nat_tests);
      sizes = grind (arith, nat_tests);
      low = grind (arith, nat_tests);
      high = grind (arith, nat_tests);
      free = t;
    }
    split false a true c d e f o p q r s t none = cc
    split false a false true d e f o p q r s t none = cc
    split false a false false true e f o p q r s t none = cc
    split false a false false false false f o p q r s t none = cc
    split false a false false false true true o p q r s t none = cc
    split false a false false false true false o p q r s t none = record {
      inside = λ some. grind (arith, nat_tests);
      sizes = grind (arith, nat_tests);
      low = grind (arith, nat_tests);
      high = grind (arith, nat_tests);
      free = t;
    }

-- the rules from the header at a place on
abbrev pub rules_from : ℕ → List ProgramHeader → ℕ → List (ElfRefusal × Bool)
rules_from size hs i = loads_rules size (map span_of (take i hs)) (drop i hs)

rules-split : (size : ℕ) (hs : List ProgramHeader) (i : ℕ) (d : ProgramHeader) → i < length hs → rules_from size hs i ≡ load_rules size (map span_of (take i hs)) (get_or hs i d) ++ rules_from size hs (i + 1)
rules-split size hs i d h =
    let rest = drop_more hs i d h in
    let front : map span_of (take (i + 1) hs) ≡ map span_of (take i hs) ++ span_of (get_or hs i d) ∷ [] = ap (map span_of) (take_more hs i d h) ∙ map-append span_of (take i hs) (get_or hs i d ∷ []) in
    ap (loads_rules size (map span_of (take i hs))) rest
    ∙ ap (λ (earlier : List Span). load_rules size (map span_of (take i hs)) (get_or hs i d) ++ loads_rules size earlier (drop (i + 1) hs)) (sym front)

-- a header that breaks no rule passes the matter on
judge-on : (size : ℕ) (hs : List ProgramHeader) (i : ℕ) (d : ProgramHeader) (es : List (ℕ × ℕ)) → i < length hs → SameSpans (map span_of (take i hs)) es → first_broken (load_rules size (entry_spans es) (get_or hs i d)) ≡ None → first_broken (rules_from size hs i) ≡ first_broken (rules_from size hs (i + 1))
judge-on size hs i d es below same none =
    ap first_broken (rules-split size hs i d below)
    ∙ broken-append-none (load_rules size (map span_of (take i hs)) (get_or hs i d)) (rules_from size hs (i + 1)) (load-same size (map span_of (take i hs)) es (get_or hs i d) same ∙ none)

-- what is kept while headers are judged: `es` is the memory that the first i ask for, and the others decide
pub record Judged (size : ℕ) (hs : List ProgramHeader) (i : ℕ) (es : List (ℕ × ℕ)) : Type 0 where
  pub apart : AreApart es
  pub same : SameSpans (map span_of (take i hs)) es
  pub decides : first_broken (rules_from size hs i) ≡ first_broken (loads_rules size [] hs)

pub judged-more : (size : ℕ) (hs : List ProgramHeader) (i : ℕ) (d : ProgramHeader) (es : List (ℕ × ℕ)) → i < length hs → 0 < (get_or hs i d).memsz → Judged size hs i es → first_broken (load_rules size (entry_spans es) (get_or hs i d)) ≡ None → Judged size hs (i + 1) (insert_entry nat_cmp es (get_or hs i d).vaddr ((get_or hs i d).vaddr + (get_or hs i d).memsz))
judged-more size hs i d es below some judged none =
    let h = get_or hs i d in
    let kept = keeps size (entry_spans es) h none in
    let full : h.vaddr < h.vaddr + h.memsz = omega arith in
    let front : map span_of (take (i + 1) hs) ≡ map span_of (take i hs) ++ span_of h ∷ [] =
    ap (map span_of) (take_more hs i d below) ∙ map-append span_of (take i hs) (h ∷ []) in
    record {
      apart = apart-insert h.vaddr (h.vaddr + h.memsz) es full kept.high kept.free judged.apart;
      same = λ test. ap (list_any test) front ∙ same-insert (map span_of (take i hs)) h.vaddr (h.vaddr + h.memsz) es full kept.free judged.apart judged.same test;
      decides = sym (judge-on size hs i d es below judged.same none) ∙ judged.decides;
    }

-- a header that breaks a rule decides
pub judged-stop : (size : ℕ) (hs : List ProgramHeader) (i : ℕ) (d : ProgramHeader) (es : List (ℕ × ℕ)) (r : ElfRefusal) → i < length hs → Judged size hs i es → first_broken (load_rules size (entry_spans es) (get_or hs i d)) ≡ Some r → first_broken (loads_rules size [] hs) ≡ Some r
judged-stop size hs i d es r below judged some =
    sym judged.decides ∙ ap first_broken (rules-split size hs i d below)
    ∙ broken-append-some (load_rules size (map span_of (take i hs)) (get_or hs i d)) (rules_from size hs (i + 1)) r (load-same size (map span_of (take i hs)) es (get_or hs i d) judged.same ∙ some)

-- a cause among the first rules is one among all
pub cause-more : (a b : List (ElfRefusal × Bool)) (e : ElfError) → IsCause (first_broken a) e → IsCause (first_broken (a ++ b)) e
cause-more a b (Refused r) h = broken-append-some a b r h
cause-more a b NoMemory h = tt

-- the same failure has the same causes
pub cause-along : (f g : Option ElfRefusal) (e : ElfError) → f ≡ g → IsCause f e → IsCause g e
cause-along f g e is h = subst (λ (o : Option ElfRefusal). IsCause o e) is h

pub whole-pages : (hs : List ProgramHeader) → 0 < length hs → 120000 < pages_touched (map span_of hs) → first_broken (whole_rules hs) ≡ Some Pages
whole-pages [] some many = absurd (omega arith)
whole-pages (h ∷ hs) some many = grind (arith, nat_tests)

pub whole-none : (hs : List ProgramHeader) → 0 < length hs → pages_touched (map span_of hs) ≤ 120000 → first_broken (whole_rules hs) ≡ None
whole-none [] some few = absurd (omega arith)
whole-none (h ∷ hs) some few = grind (arith, nat_tests)

-- no header asks for memory
pub whole-empty : (hs : List ProgramHeader) → length hs ≡ 0 → first_broken (whole_rules hs) ≡ Some NoLoad
whole-empty [] none = refl
whole-empty (h ∷ hs) none = absurd (omega arith)
