-- The moments of a write and a sync on a settled file.
use Rattle.std.proofs.Common.{◌≡◌, ℕ, ◌≤◌, List, length, refl, sym, ap, subst}
use Rattle.house_io.specs.Moments.{Moment, Moments, IsSettled, Torn, HasTorn, settled, written, overlaid, then, Leaves, AtEach}
use Rattle.house_io.proofs.Moments.{at_next, at_both, leaves_settled, leaves_written, settled_torn}
use Rattle.house_io.proofs.Overlays.{overlaid_torn}

module _ (at : ℕ) (bytes : List ℕ) (old : Moments) (is_settled : IsSettled old.now) where
  abbrev n : ℕ
  n = length bytes

  abbrev P : List ℕ → Type 0
  P = Torn at n old.now.read

  leaves_first : Leaves P old.now
  leaves_first = subst (Leaves P) (sym is_settled) (leaves_settled P old.now.read (settled_torn old.now.read old.now.read at n refl))

  leaves_next : (read : List ℕ) → P read → Leaves P (written at n read old.now)
  leaves_next read torn = subst (λ (m : Moment). Leaves P (written at n read m)) (sym is_settled) (leaves_written old.now.read read at n torn)

  next : (read : List ℕ) (mid : Moments) → P read → mid ≡ then old (written at n read old.now) → AtEach P old mid
  next read mid torn is = at_next P old mid (written at n read old.now) leaves_first is (leaves_next read torn)

  pub after_torn : (mid : Moments) → HasTorn at n old mid → AtEach P old mid
  after_torn mid torn = next torn.0 mid torn.1 torn.2

  module _ (within : at ≤ length old.now.read) (mid : Moments) (is : mid ≡ then old (written at n (overlaid old.now.read at bytes) old.now)) where
    whole : P (overlaid old.now.read at bytes)
    whole = overlaid_torn old.now.read bytes at

    pub after_write : AtEach P old mid
    after_write = next (overlaid old.now.read at bytes) mid whole is

    pub after_failed_sync : (new : Moments) → new ≡ mid → AtEach P old new
    after_failed_sync new same = subst (AtEach P old) (sym same) after_write

    pub after_sync : (new : Moments) → new ≡ then mid (settled mid.now.read) → AtEach P old new
    after_sync new done =
        let read_is : mid.now.read ≡ overlaid old.now.read at bytes = ap (λ ms. ms.now.read) is in
        let here : Leaves P mid.now = subst (λ (ms : Moments). Leaves P ms.now) (sym is) (leaves_next (overlaid old.now.read at bytes) whole) in
        at_both P old mid new after_write (at_next P mid new (settled mid.now.read) here done (leaves_settled P mid.now.read (subst P (sym read_is) whole)))
