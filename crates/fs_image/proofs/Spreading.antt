-- Taking numbers out of a set as they are reached, and what is left in it at the end.
use Rattle.std.proofs.Common.{◌≡◌, ℕ, zero, suc, ◌+◌, ◌<◌, ◌≤◌, ◌⊎◌, Bool, true, false, cond, not, List, [], ◌∷◌, ◌++◌, length, get_or, take, Some, refl, sym, ap, subst, ◌∙◌, arith, inl, inr}
use Rattle.std.specs.Prelude.{◌==◌, ◌&&◌, Contains, slice_get}
use Rattle.std.specs.HashSet.{HashSet, hash_set_len}
use Rattle.std.specs.List.Sorted.{IsStrictlySortedBy}
use Rattle.std.specs.Ordering.{nat_cmp}
use Rattle.std.proofs.lemmas.Bool.{cases_Bool, cases_lt, eqb-true, eq-eqb}
use Rattle.std.proofs.lemmas.Bool.Decides.{nat_tests}
use Rattle.std.proofs.lemmas.List.{take_more, length_push, get_or_default, get_or-map, length-map}
use Rattle.std.proofs.lemmas.List.Elements.{Contains-push, Contains-push_cases, Contains-append_left}
use Rattle.std.proofs.lemmas.List.Sums.{sum_by_push}
use Rattle.std.proofs.lemmas.Map.Keys.{below_from_sorted}
use Rattle.kernel_core.specs.declared.tree.Node.{Node}
use Rattle.kernel_core.specs.declared.tree.DirEntry.{DirEntry}
use Rattle.kernel_core.specs.ValidTree.{root, entries_of, names_in, numbers, IsReached, IsReachedIn}
use Rattle.fs_image.specs.Naming.{is_there, is_reached}
use Rattle.fs_image.specs.inside.Walk.{is_in, Spreads, AreUnreached}
use Rattle.fs_image.proofs.Reaching.{true_any, is_reached-sound, is_reached-complete}

-- one entry more names its number once more
pub names_more : (entries : List DirEntry) (i : ℕ) (entry : DirEntry) (q : ℕ) → i < length entries → entry ≡ get_or entries i entry
    → names_in (take (i + 1) entries) q ≡ names_in (take i entries) q + cond (entry.node == q) 1 0
names_more entries i entry q below is =
    let more : take (i + 1) entries ≡ take i entries ++ entry ∷ [] = take_more entries i entry below ∙ ap (λ e. take i entries ++ e ∷ []) (sym is) in
    ap (λ es. names_in es q) more ∙ sum_by_push (λ (e : DirEntry). cond (e.node == q) 1 0) (take i entries) entry

and_none : (b : Bool) (n : ℕ) → (b && (n + 1 == 0)) ≡ false
and_none true n = grind (arith, nat_tests)
and_none false n = refl

-- the set after one number is taken out
abbrev Without : {S : Type 0} → ℕ → HashSet ℕ S → HashSet ℕ S → Type 0
Without number old new = (q : ℕ) → is_in new q ≡ cond (number == q) false (is_in old q)

taken_next : {S : Type 0} (n : ℕ → ℕ) (number : ℕ) (old now new : HashSet ℕ S) → ((q : ℕ) → is_in now q ≡ (is_in old q && (n q == 0))) → Without number now new
    → (q : ℕ) → is_in new q ≡ (is_in old q && (n q + cond (number == q) 1 0 == 0))
taken_next n number old now new so_far without q =
    elim (cases_Bool (number == q)) as (λ _. is_in new q ≡ (is_in old q && (n q + cond (number == q) 1 0 == 0))) [
      | inl t ↦ without q ∙ (ap (λ b. cond b false (is_in now q)) t ∙ sym (ap (λ b. is_in old q && (n q + cond b 1 0 == 0)) t ∙ and_none (is_in old q) (n q)))
      | inr f ↦
          let same : n q + 0 ≡ n q = omega arith in
          without q ∙ (ap (λ b. cond b false (is_in now q)) f ∙ (so_far q ∙ sym (ap (λ b. is_in old q && (n q + cond b 1 0 == 0)) f ∙ ap (λ m. is_in old q && (m == 0)) same)))
    ]

grown : (n : ℕ) (b : Bool) → 1 ≤ n → 1 ≤ n + cond b 1 0
grown n true h = omega arith
grown n false h = omega arith

named_here : (n : ℕ) (b : Bool) → b ≡ true → 1 ≤ n + cond b 1 0
named_here n b t = rw t (omega arith)

-- an entry whose number was in the set
pub spread_pushed : {S : Type 0} (entries : List DirEntry) (i : ℕ) (entry : DirEntry) (old : HashSet ℕ S) (stack : List ℕ) (now : HashSet ℕ S) (waiting : List ℕ) (new : HashSet ℕ S)
    → i < length entries → entry ≡ get_or entries i entry → Spreads (take i entries) old stack now waiting
    → Without entry.node now new → hash_set_len new + 1 ≡ hash_set_len now → Spreads (take (i + 1) entries) old stack new (waiting ++ entry.node ∷ [])
spread_pushed entries i entry old stack now waiting new below is so_far without len =
    let n : ℕ → ℕ = names_in (take i entries) in
    let more : (q : ℕ) → names_in (take (i + 1) entries) q ≡ n q + cond (entry.node == q) 1 0 = λ q. names_more entries i entry q below is in
    record {
      taken = λ q. taken_next n entry.node old now new so_far.taken without q ∙ ap (λ m. is_in old q && (m == 0)) (sym (more q));
      waits = λ q was gone. elim (cases_Bool (entry.node == q)) as (λ _. Contains (waiting ++ entry.node ∷ []) q) [
        | inl t ↦ subst (Contains (waiting ++ entry.node ∷ [])) (eqb-true entry.node q t) (Contains-push waiting entry.node)
        | inr f ↦
            let gone_before : is_in now q ≡ false = sym (without q ∙ ap (λ b. cond b false (is_in now q)) f) ∙ gone in
            Contains-append_left waiting (entry.node ∷ []) q (so_far.waits q was gone_before)
      ];
      kept = λ q c. Contains-append_left waiting (entry.node ∷ []) q (so_far.kept q c);
      only = λ q c. elim (Contains-push_cases waiting entry.node q c) as (λ _. Contains stack q ⊎ (1 ≤ names_in (take (i + 1) entries) q)) [
        | inl there ↦ elim (so_far.only q there) as (λ _. Contains stack q ⊎ (1 ≤ names_in (take (i + 1) entries) q)) [
          | inl before ↦ inl before
          | inr named ↦ inr (rw more (grown (n q) (entry.node == q) named))
        ]
        | inr same ↦ inr (rw more (named_here (n q) (entry.node == q) (eq-eqb entry.node q same)))
      ];
      measure = omega (arith, so_far.measure, len, length_push waiting entry.node);
    }

-- an entry whose number was not in the set
pub spread_kept : {S : Type 0} (entries : List DirEntry) (i : ℕ) (entry : DirEntry) (old : HashSet ℕ S) (stack : List ℕ) (now : HashSet ℕ S) (waiting : List ℕ) (new : HashSet ℕ S)
    → i < length entries → entry ≡ get_or entries i entry → Spreads (take i entries) old stack now waiting
    → Without entry.node now new → is_in now entry.node ≡ false → hash_set_len new ≡ hash_set_len now → Spreads (take (i + 1) entries) old stack new waiting
spread_kept entries i entry old stack now waiting new below is so_far without absent len =
    let n : ℕ → ℕ = names_in (take i entries) in
    let more : (q : ℕ) → names_in (take (i + 1) entries) q ≡ n q + cond (entry.node == q) 1 0 = λ q. names_more entries i entry q below is in
    record {
      taken = λ q. taken_next n entry.node old now new so_far.taken without q ∙ ap (λ m. is_in old q && (m == 0)) (sym (more q));
      waits = λ q was gone. elim (cases_Bool (entry.node == q)) as (λ _. Contains waiting q) [
        | inl t ↦ so_far.waits q was (subst (λ (k : ℕ). is_in now k ≡ false) (eqb-true entry.node q t) absent)
        | inr f ↦ so_far.waits q was (sym (without q ∙ ap (λ b. cond b false (is_in now q)) f) ∙ gone)
      ];
      kept = so_far.kept;
      only = λ q c. elim (so_far.only q c) as (λ _. Contains stack q ⊎ (1 ≤ names_in (take (i + 1) entries) q)) [
        | inl before ↦ inl before
        | inr named ↦ inr (rw more (grown (n q) (entry.node == q) named))
      ];
      measure = omega (arith, so_far.measure, len);
    }

and_true_left : (b : Bool) → (b && true) ≡ b
and_true_left true = refl
and_true_left false = refl

pub spread_none : {S : Type 0} (old : HashSet ℕ S) (stack : List ℕ) → Spreads [] old stack old stack
spread_none old stack = record {
  taken = λ q. sym (and_true_left (is_in old q));
  waits = λ q was gone. absurd cc;
  kept = λ q c. c;
  only = λ q c. inl c;
  measure = refl;
}

-- The walk

pub record Walked {S : Type 0} (nodes : List Node) (unreached : HashSet ℕ S) (stack : List ℕ) : Type 0 where
  pub reached : (q : ℕ) → is_there nodes q ≡ true → is_in unreached q ≡ false → IsReached nodes q
  pub waiting : (q : ℕ) → Contains stack q → IsReached nodes q
  pub closed : (n : Node) → Contains nodes n → is_in unreached n.number ≡ false → Contains stack n.number ⊎ ((q : ℕ) → 1 ≤ names_in (entries_of n.kind) q → is_in unreached q ≡ false)
  pub root_gone : is_in unreached root ≡ false

-- a node has one number
same_node : (nodes : List Node) (a b : Node) → IsStrictlySortedBy nat_cmp (numbers nodes) → Contains nodes a → Contains nodes b → a.number ≡ b.number → a ≡ b
same_node nodes a b sorted ca cb same =
    let na : get_or (numbers nodes) ca.0 0 ≡ a.number = get_or-map (λ (n : Node). n.number) nodes ca.0 a 0 ca.1 ∙ ap (λ (n : Node). n.number) ca.2 in
    let nb : get_or (numbers nodes) cb.0 0 ≡ b.number = get_or-map (λ (n : Node). n.number) nodes cb.0 b 0 cb.1 ∙ ap (λ (n : Node). n.number) cb.2 in
    let len = length-map nodes (λ (n : Node). n.number) in
    elim (cases_lt ca.0 cb.0) as (λ _. a ≡ b) [
      | inl lt ↦ absurd (omega (arith, na, nb, same, below_from_sorted (numbers nodes) ca.0 cb.0 0 sorted lt (omega (arith, cb.1, len))))
      | inr ge ↦ elim (cases_lt cb.0 ca.0) as (λ _. a ≡ b) [
        | inl lt ↦ absurd (omega (arith, na, nb, same, below_from_sorted (numbers nodes) cb.0 ca.0 0 sorted lt (omega (arith, ca.1, len))))
        | inr ge' ↦
            let place : ca.0 ≡ cb.0 = omega arith in
            sym ca.2 ∙ (ap (λ k. get_or nodes k a) place ∙ (get_or_default nodes cb.0 a b cb.1 ∙ cb.2))
      ]
    ]

step_to : (nodes : List Node) (parent : Node) (q : ℕ) → Contains nodes parent → 1 ≤ names_in (entries_of parent.kind) q → IsReached nodes parent.number → IsReached nodes q
step_to nodes parent q c named h = (suc h.0, (parent, c, named, h.1))

gone_or_named : (b : Bool) (n : ℕ) → (b && (n == 0)) ≡ false → (b ≡ false) ⊎ (1 ≤ n)
gone_or_named true zero e = absurd cc
gone_or_named true (suc n) e = inr (omega arith)
gone_or_named false n e = inl refl

still_gone : (b : Bool) (n : ℕ) → b ≡ false → (b && (n == 0)) ≡ false
still_gone b n e = rw e refl

named_gone : (b : Bool) (n : ℕ) → 1 ≤ n → (b && (n == 0)) ≡ false
named_gone true n h = grind (arith, nat_tests)
named_gone false n h = refl

pub walked_on : {S : Type 0} (nodes : List Node) (old : HashSet ℕ S) (stack : List ℕ) (number : ℕ) (node : Node) (new : HashSet ℕ S) (stack' : List ℕ)
    → IsStrictlySortedBy nat_cmp (numbers nodes) → Walked nodes old (stack ++ number ∷ []) → Contains nodes node → node.number ≡ number → Spreads (entries_of node.kind) old stack new stack'
    → Walked nodes new stack'
walked_on nodes old stack number node new stack' sorted walked there is spread =
    let at : IsReached nodes node.number = subst (IsReached nodes) (sym is) (walked.waiting number (Contains-push stack number)) in
    let gone : (q : ℕ) → is_in old q ≡ false → is_in new q ≡ false = λ q e. spread.taken q ∙ still_gone (is_in old q) (names_in (entries_of node.kind) q) e in
    record {
      reached = λ q known e. elim (gone_or_named (is_in old q) (names_in (entries_of node.kind) q) (sym (spread.taken q) ∙ e)) as (λ _. IsReached nodes q) [
        | inl before ↦ walked.reached q known before
        | inr named ↦ step_to nodes node q there named at
      ];
      waiting = λ q c. elim (spread.only q c) as (λ _. IsReached nodes q) [
        | inl before ↦ walked.waiting q (Contains-append_left stack (number ∷ []) q before)
        | inr named ↦ step_to nodes node q there named at
      ];
      closed = λ n c e. elim (cases_Bool (is_in old n.number)) as (λ _. Contains stack' n.number ⊎ ((q : ℕ) → 1 ≤ names_in (entries_of n.kind) q → is_in new q ≡ false)) [
        | inl was ↦ inl (spread.waits n.number was e)
        | inr before ↦ elim (walked.closed n c before) as (λ _. Contains stack' n.number ⊎ ((q : ℕ) → 1 ≤ names_in (entries_of n.kind) q → is_in new q ≡ false)) [
          | inl waits ↦ elim (Contains-push_cases stack number n.number waits) as (λ _. Contains stack' n.number ⊎ ((q : ℕ) → 1 ≤ names_in (entries_of n.kind) q → is_in new q ≡ false)) [
            | inl still ↦ inl (spread.kept n.number still)
            | inr popped ↦
                let same : node ≡ n = same_node nodes node n sorted there c (is ∙ popped) in
                let P : Node → Type 0 = λ m. (q : ℕ) → 1 ≤ names_in (entries_of m.kind) q → is_in new q ≡ false in
                inr (subst P same (λ q named. spread.taken q ∙ named_gone (is_in old q) (names_in (entries_of node.kind) q) named))
          ]
          | inr done ↦ inr (λ q named. gone q (done q named))
        ]
      ];
      root_gone = gone root walked.root_gone;
    }

-- a number that no node has
pub walked_past : {S : Type 0} (nodes : List Node) (old : HashSet ℕ S) (stack : List ℕ) (number : ℕ) → Walked nodes old (stack ++ number ∷ []) → is_there nodes number ≡ false → Walked nodes old stack
walked_past nodes old stack number walked absent = record {
  reached = walked.reached;
  waiting = λ q c. walked.waiting q (Contains-append_left stack (number ∷ []) q c);
  closed = λ n c e. elim (walked.closed n c e) as (λ _. Contains stack n.number ⊎ ((q : ℕ) → 1 ≤ names_in (entries_of n.kind) q → is_in old q ≡ false)) [
    | inl waits ↦ elim (Contains-push_cases stack number n.number waits) as (λ _. Contains stack n.number ⊎ ((q : ℕ) → 1 ≤ names_in (entries_of n.kind) q → is_in old q ≡ false)) [
      | inl still ↦ inl still
      | inr popped ↦
          let there : is_there nodes number ≡ true = true_any (λ (m : Node). m.number == number) nodes n c (eq-eqb n.number number (sym popped)) in
          absurd cc
    ]
    | inr done ↦ inr done
  ];
  root_gone = walked.root_gone;
}

nothing_waits : (q : ℕ) → Contains [] q → ⊥
nothing_waits q c = omega (arith, c.1)

all_gone : {S : Type 0} (nodes : List Node) (unreached : HashSet ℕ S) (k q : ℕ) → Walked nodes unreached [] → IsReachedIn nodes k q → is_in unreached q ≡ false
all_gone nodes unreached zero q walked h = subst (λ (n : ℕ). is_in unreached n ≡ false) (sym h) walked.root_gone
all_gone nodes unreached (suc k) q walked h =
    elim (walked.closed h.0 h.1 (all_gone nodes unreached k h.0.number walked h.3)) as (λ _. is_in unreached q ≡ false) [
      | inl waits ↦ absurd (nothing_waits h.0.number waits)
      | inr done ↦ done q h.2
    ]

pub walked_all : {S : Type 0} (nodes : List Node) (first : Node) (unreached : HashSet ℕ S) → slice_get nodes 0 ≡ Some first → first.number ≡ root → Walked nodes unreached [] → AreUnreached nodes unreached
walked_all nodes first unreached begins is walked n c =
    elim (cases_Bool (is_in unreached n.number)) as (λ _. is_reached nodes n.number ≡ not (is_in unreached n.number)) [
      | inr gone ↦
          let there : is_there nodes n.number ≡ true = true_any (λ (m : Node). m.number == n.number) nodes n c (eq-eqb n.number n.number refl) in
          is_reached-complete nodes first n.number begins is (walked.reached n.number there gone) ∙ ap not (sym gone)
      | inl left ↦ elim (cases_Bool (is_reached nodes n.number)) as (λ _. is_reached nodes n.number ≡ not (is_in unreached n.number)) [
        | inl yes' ↦
            let h = is_reached-sound nodes n.number yes' in
            let gone = all_gone nodes unreached h.0 n.number walked h.1 in
            absurd cc
        | inr no' ↦ no' ∙ ap not (sym left)
      ]
    ]

-- the start: all numbers but the root's
pub walked_start : {S : Type 0} (nodes : List Node) (all rest : HashSet ℕ S) → ((q : ℕ) → is_in all q ≡ is_there nodes q) → Without root all rest → Walked nodes rest (root ∷ [])
walked_start nodes all rest are without =
    let at_root : IsReached nodes root = (0, refl) in
    let is_root : (q : ℕ) → is_there nodes q ≡ true → is_in rest q ≡ false → root ≡ q = λ q known e.
    elim (cases_Bool (root == q)) as (λ _. root ≡ q) [
      | inl t ↦ eqb-true root q t
      | inr f ↦ let left : is_in rest q ≡ true = without q ∙ (ap (λ b. cond b false (is_in all q)) f ∙ (are q ∙ known)) in absurd cc
    ] in
    record {
      reached = λ q known e. subst (IsReached nodes) (is_root q known e) at_root;
      waiting = λ q c. subst (IsReached nodes) (only_one root q c) at_root;
      closed = λ n c e.
          let there : is_there nodes n.number ≡ true = true_any (λ (m : Node). m.number == n.number) nodes n c (eq-eqb n.number n.number refl) in
          inl (0, omega arith, is_root n.number there e);
      root_gone = without root ∙ refl;
    }
  where
    only_one : (a q : ℕ) → Contains (a ∷ []) q → a ≡ q
    only_one a q (zero, below, is) = is
    only_one a q (suc k, below, is) = absurd (omega (arith, below))
