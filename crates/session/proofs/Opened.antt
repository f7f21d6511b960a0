-- The clocks of a hall that was just opened.
use Rattle.std.proofs.Common.{◌≡◌, ℕ, zero, suc, ◌+◌, ◌-◌, ◌<◌, List, [], ◌∷◌, ◌++◌, length, Some, sym, ◌∙◌, ap, arith}
use Rattle.std.specs.Prelude.{slice_get}
use Rattle.lot_base.specs.declared.auction_terms.Terms.{Terms}
use Rattle.clock.specs.Reports.{ClockHistory, ClockOf}
use Rattle.session.specs.Lists.{AreClocks, AreOpened, supply_in}

pub opened_on : (terms : Terms) (from : ℕ) (cs : List ClockOf) (c : ClockOf) → AreOpened terms from cs → c.history ≡ record { terms = terms; number = from + length cs; reports = [] } → AreOpened terms from (cs ++ c ∷ [])
opened_on terms from [] c h e = (e ∙ (let n : from + 0 ≡ from = omega arith in λ i. record { terms = terms; number = n i; reports = [] }), tt)
opened_on terms from (d ∷ cs) c h e = (h.0, opened_on terms (from + 1) cs c h.1 (e ∙ (let n : from + suc (length cs) ≡ from + 1 + length cs = omega arith in λ i. record { terms = terms; number = n i; reports = [] })))

at : (terms : Terms) (from : ℕ) (cs : List ClockOf) (k : ℕ) (c : ClockOf) → AreOpened terms from cs → slice_get cs k ≡ Some c → (c.history.number ≡ from + k) × (c.history.terms ≡ terms)
at terms from [] k c h e = absurd (let f = e in cc)
at terms from (d ∷ cs) zero c h e =
    let f : Some d ≡ Some c = e in
    let g : d ≡ c = cc in
    let n : from ≡ from + 0 = omega arith in
    (ap (λ (x : ClockOf). x.history.number) (sym g) ∙ ap (λ (x : ClockHistory). x.number) h.0 ∙ n, ap (λ (x : ClockOf). x.history.terms) (sym g) ∙ ap (λ (x : ClockHistory). x.terms) h.0)
at terms from (d ∷ cs) (suc k) c h e = let r = at terms (from + 1) cs k c h.1 e in (r.0 ∙ (let n : from + 1 + k ≡ from + suc k = omega arith in n), r.1)

supply_of : (terms : Terms) (from : ℕ) (cs : List ClockOf) → 0 < length cs → AreOpened terms from cs → supply_in cs ≡ terms.goods
supply_of terms from [] some h = absurd (omega arith)
supply_of terms from (c ∷ cs) some h = ap (λ (x : ClockHistory). x.terms.goods) h.0

pub are_clocks : (terms : Terms) (cs : List ClockOf) → AreOpened terms 0 cs → length cs ≡ terms.bidders + 1 → AreClocks cs × (supply_in cs ≡ terms.goods) × (length cs - 1 ≡ terms.bidders)
are_clocks terms cs h n =
    let some : 0 < length cs = omega (arith, n) in
    let supply = supply_of terms 0 cs some h in
    let bidders : length cs - 1 ≡ terms.bidders = omega (arith, n) in (
      record {
        some = some;
        each = λ k c e. let r = at terms 0 cs k c h e in record { number = r.0 ∙ (let z : 0 + k ≡ k = omega arith in z); goods = ap (λ (t : Terms). t.goods) r.1 ∙ sym supply; bidders_are = ap (λ (t : Terms). t.bidders) r.1 ∙ sym bidders };
      },
      supply,
      bidders,
    )
