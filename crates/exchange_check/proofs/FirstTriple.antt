-- The first triple by places is the first by bundles.
use Rattle.std.proofs.Common.{ℕ, List, subst, arith}
use Rattle.std.specs.Prelude.{ℤ}
use Rattle.lot_base.specs.Box.{index_of, bundle_at}
use Rattle.lot_base.proofs.Index.{bundle_at-within, bundle_at-index_of, index_of-bundle_at, index_of-small}
use Rattle.exchange_check.specs.Exchange.{IsExchanged, IsFirstBroken}
use Rattle.exchange_check.specs.Local.{IsFirstPlace}

pub first-triple : (s : List ℕ) (u : List ℕ → ℤ) (x y k : ℕ) → IsFirstPlace s u x y k → IsFirstBroken s u (bundle_at s x) (bundle_at s y) k
first-triple s u x y k h = record {
  in_x = bundle_at-within s x h.0;
  in_y = bundle_at-within s y h.1;
  good = h.2;
  broken = h.3;
  goods = h.4;
  bundles = λ b l within before inside.
      let e = index_of-bundle_at s y h.1 in
      let P : List ℕ → Type 0 = λ z. IsExchanged u (bundle_at s x) z l in
      subst P (bundle_at-index_of s b within) (h.5 (index_of s b) l (omega (arith, e, before)) inside);
  pairs = λ a b l in_a in_b before inside.
      let e = index_of-bundle_at s x h.0 in
      let P : List ℕ → Type 0 = λ z. IsExchanged u z b l in
      let Q : List ℕ → Type 0 = λ z. IsExchanged u (bundle_at s (index_of s a)) z l in
      subst P (bundle_at-index_of s a in_a)
      (subst Q (bundle_at-index_of s b in_b) (h.6 (index_of s a) (index_of s b) l (omega (arith, e, before)) (index_of-small s b in_b) inside));
}
