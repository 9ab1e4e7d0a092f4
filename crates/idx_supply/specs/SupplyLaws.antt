-- Laws: for how many pages more a supply lasts, the page that is taken, and the supply after pages were taken one by one. Cited by the proofs of the functions
-- and by the laws of insertion. Assumes nothing.
use Rattle.std.specs.Prelude.{ℕ, suc, ◌+◌, ◌-◌, ◌≤◌, ◌<◌, ◌≡◌, true, false, List, length}
use Rattle.std.proofs.Common.{◌∙◌, arith}
use Rattle.basis.specs.Tests.{either}
use Rattle.idx_page.specs.Header.{max_levels, page_size, is_page}
use Rattle.idx_page.specs.HeaderLaws.{GoodHeader}
use Rattle.idx_page.specs.Page.{right_at}
use Rattle.idx_page.specs.declared.PageOffset.{PageOffset}
use Rattle.idx_layout.specs.Layout.{with_free, with_size}
use Rattle.idx_supply.specs.Supply.{supply_of, take_page, supply_after, with_supply}
use Rattle.idx_supply.specs.Given.{Lasts}
use Rattle.idx_supply.specs.declared.Supply.{Supply}
use Rattle.idx_supply.specs.declared.Taken.{Taken}

-- the supply of an index lasts for a page on each level and for a new root
pub header_lasts : (b : List ℕ) → GoodHeader b → Lasts (max_levels + 1) (supply_of b)
unfolding supply_of
header_lasts b h = omega (arith, h.most)

-- a page that is taken is one page less
pub taken_lasts : (n : ℕ) (b : List ℕ) (s : Supply) → Lasts (n + 1) s → Lasts n (take_page b s).rest
unfolding take_page
taken_lasts n b s h = either (is_page (length b) s.free.0) (λ e. rw e (omega (arith, h))) (λ e. rw e (omega (arith, h)))

-- the page that is taken, by whether a page is free: the head of the free list, or the page at the file's end
module _ (b : List ℕ) (s : Supply) where
  pub takes-free : {next : PageOffset} → is_page (length b) s.free.0 ≡ true → next.0 ≡ right_at b s.free.0
      → ◌≡◌ {A = Taken} (record { page = s.free; rest = record { free = next; end = s.end } }) (take_page b s)
  unfolding take_page
  takes-free e n = rw (e, ← n)

  pub takes-end : {next : PageOffset} → is_page (length b) s.free.0 ≡ false → next.0 ≡ s.end.0 + page_size
      → ◌≡◌ {A = Taken} (record { page = s.end; rest = record { free = s.free; end = next } }) (take_page b s)
  unfolding take_page
  takes-end e n = rw (e, ← n)

-- the supply after n pages, of which i were taken and s is left
pub after_on : (n i : ℕ) (b : List ℕ) (s : Supply) → i < n → supply_after (n - i) b s ≡ supply_after (n - (i + 1)) b (take_page b s).rest
unfolding supply_after
after_on n i b s l = let e : n - i ≡ suc (n - (i + 1)) = omega arith in rw e

pub after-end : (n i : ℕ) (b : List ℕ) (s : Supply) → n ≤ i → supply_after (n - i) b s ≡ s
unfolding supply_after
after-end n i b s l = let e : n - i ≡ 0 = omega arith in rw e

-- the stores of a supply's two numbers, one after the other
pub supply-put : (b : List ℕ) (s : Supply) {l1 l2 : List ℕ} → l1 ≡ with_free b s.free.0 → l2 ≡ with_size l1 s.end.0 → l2 ≡ with_supply b s
unfolding with_supply
supply-put b s e f = f ∙ rw e
