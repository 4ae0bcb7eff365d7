-- The bytes of a page that may be fetched.
use Rattle.std.proofs.Common.{◌≡◌, ◌≤◌, ◌+◌, ◌/◌, ◌%◌, ℕ, List, Option, Some, None, length, take, drop, refl, sym, ap, ◌∙◌}
use Rattle.std.specs.FinMap.{get}
use Rattle.raw_pages.specs.Pages.{shown_bytes}
use Rattle.guest_space.specs.declared.access.Access.TheVariants.{Load}
use Rattle.guest_space.specs.Memory.{MappedPage, Pages}
use Rattle.guest_space.specs.Access.{refusal, page_refusal}
use Rattle.guest_space.specs.Bytes.{bytes_at}
use Rattle.guest_space.proofs.Prefixes.{refusal-page, below_end}
use Rattle.guest_space.proofs.ByteLemmas.{bytes_at-page}

module _ (pages : Pages) (a k : ℕ) (bs : List ℕ) where
  shown_go : (o : Option MappedPage) → get pages (a / 4096) ≡ o → page_refusal Load o ≡ None → shown_bytes o ≡ bs
      → a % 4096 + k ≤ 4096 → length bs ≡ 4096 → bytes_at pages a k ≡ take k (drop (a % 4096) bs)
  shown_go None found free there room whole = absurd (cc)
  shown_go (Some page) found free there room whole =
      bytes_at-page pages a k page found room (ap length there ∙ whole) ∙ ap (λ s. take k (drop (a % 4096) s)) there

  -- bytes of a page that may be loaded are a part of what it shows
  pub bytes_at-shown : refusal Load pages a ≡ None → shown_bytes (get pages (a / 4096)) ≡ bs
      → a % 4096 + k ≤ 4096 → length bs ≡ 4096 → bytes_at pages a k ≡ take k (drop (a % 4096) bs)
  bytes_at-shown free there room whole =
      shown_go (get pages (a / 4096)) refl (sym (refusal-page Load pages a (below_end Load pages a free)) ∙ free) there room whole
