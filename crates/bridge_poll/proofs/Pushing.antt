-- Entries that are pushed one after the other.
use Rattle.std.proofs.Common.{◌≡◌, ℕ, suc, ◌+◌, ◌-◌, ◌*◌, ◌%◌, ◌<◌, List, [], ◌++◌, length, replicate, refl, sym, ap, ◌∙◌, arith, append_assoc, append-nil, length-append}
use Rattle.guest_space.proofs.ByteLemmas.{bytes_at-append}
use Rattle.guest_space.specs.Bytes.{bytes_at}
use Rattle.guest_space.specs.Memory.{Pages}
use Rattle.host_mem.specs.Memory.{padded}
use Rattle.bridge_poll.specs.inside.Entries.{native_entries, native_entry}

no_padding : (room : List ℕ) → length room % 8 ≡ 0 → padded room ≡ room
no_padding room aligned = ap (λ (n : ℕ). room ++ replicate ((8 - n) % 8) 0) aligned ∙ append-nil room

-- the entries from one on
abbrev pub pushed_from : Pages → ℕ → ℕ → List ℕ
pushed_from pages address count = native_entries count (bytes_at pages address (count * 8))

first_of : (pages : Pages) (address more : ℕ) (rest : List ℕ) → native_entries (suc more) (bytes_at pages address 8 ++ rest) ≡ native_entry (bytes_at pages address 8) ++ native_entries more rest
unfolding native_entries bytes_at
first_of pages address more rest = refl

pub pushed_first : (pages : Pages) (address more : ℕ) → pushed_from pages address (suc more) ≡ native_entry (bytes_at pages address 8) ++ pushed_from pages (address + 8) more
pushed_first pages address more =
    let size : suc more * 8 ≡ 8 + more * 8 = omega arith in
    ap (λ (n : ℕ). native_entries (suc more) (bytes_at pages address n)) size
    ∙ ap (λ (l : List ℕ). native_entries (suc more) l) (bytes_at-append pages 8 (more * 8) address)
    ∙ first_of pages address more (bytes_at pages (address + 8) (more * 8))

pub pushed_none : (pages : Pages) (address : ℕ) → pushed_from pages address 0 ≡ []
unfolding native_entries
pushed_none pages address = refl

-- the step of the loop
pub pushed_one : (pages : Pages) (address count done : ℕ) (before room after entry whole : List ℕ) → done < count → length room % 8 ≡ 0 → entry ≡ native_entry (bytes_at pages (address + done * 8) 8)
    → after ≡ padded room ++ entry → room ++ pushed_from pages (address + done * 8) (count - done) ≡ whole
    → (after ++ pushed_from pages (address + (done + 1) * 8) (count - (done + 1)) ≡ whole)
pushed_one pages address count done before room after entry whole below aligned is put all =
    let left : count - done ≡ suc (count - (done + 1)) = omega (arith, below) in
    let next : address + (done + 1) * 8 ≡ address + done * 8 + 8 = omega arith in
    (λ i. (put ∙ ap (λ (l : List ℕ). l ++ entry) (no_padding room aligned) ∙ ap (λ (l : List ℕ). room ++ l) is) i ++ pushed_from pages (next i) (count - (done + 1)))
    ∙ append_assoc room (native_entry (bytes_at pages (address + done * 8) 8)) (pushed_from pages (address + done * 8 + 8) (count - (done + 1)))
    ∙ ap (λ (l : List ℕ). room ++ l) (sym (pushed_first pages (address + done * 8) (count - (done + 1))))
    ∙ ap (λ (n : ℕ). room ++ pushed_from pages (address + done * 8) n) (sym left)
    ∙ all

length_entry : (bytes : List ℕ) → length (native_entry bytes) ≡ 8
length_entry bytes = refl

pub pushed_aligned : (room after entry bytes : List ℕ) → length room % 8 ≡ 0 → entry ≡ native_entry bytes → after ≡ padded room ++ entry → length after % 8 ≡ 0
pushed_aligned room after entry bytes aligned is put =
    let all : length after ≡ length room + 8 =
    ap (λ (l : List ℕ). length l) (put ∙ ap (λ (l : List ℕ). l ++ entry) (no_padding room aligned) ∙ ap (λ (l : List ℕ). room ++ l) is)
    ∙ length-append room (native_entry bytes) ∙ ap (λ (n : ℕ). length room + n) (length_entry bytes) in
    omega (arith, all, aligned)
