-- Books that were opened on the targets, and targets of which one was refused.
use Rattle.std.proofs.Common.{◌≡◌, ◌⊎◌, inl, inr, ◌<◌, ◌≤◌, ℕ, suc, ◌+◌, IsTrue, List, [], ◌∷◌, ◌++◌, length, drop, get_or, Err, refl, sym, ◌∙◌, ap, subst, arith, length-append, length-drop}
use Rattle.std.proofs.lemmas.Bool.{true≢false}
use Rattle.house_io.specs.Disks.{DiskShown, is_told, told_moments}
use Rattle.std.proofs.lemmas.Bool.{cases_lt}
use Rattle.std.proofs.lemmas.List.{get_or_at, length-map}
use Rattle.lot_base.specs.declared.auction_terms.Terms.{Terms}
use Rattle.house_io.specs.Moments.{AtEach, synced_at}
use Rattle.clock.specs.Reports.{ClockHistory}
use Rattle.recovery.specs.Journaled.{owner_of}
use Rattle.clock_book.specs.Past.{IsAsOpened}
use Rattle.clock_book.specs.Books.{BookOf}
use Rattle.clock_book.specs.Opened.{Opens, IsUnopened, LeftUnopened, IsLeftUnlessClaimed}
use Rattle.clock_book.specs.Opening.{CountsFaults, ReadsClock}
use Rattle.clock_book.specs.declared.faults.OpenFault.{OpenFault}
use Rattle.clock_book.specs.declared.faults.OpenFault.TheVariants as why
use Rattle.migration.specs.declared.faults.MoveFault.TheVariants.{NotOpened}
use Rattle.migration.specs.Moving.{LeavesTarget}
use Rattle.migration.specs.Moves.{Moves, TellsFaultOf}
use Rattle.migration.specs.Targets.{AreOpen, disks_of}
use Rattle.migration.proofs.Lists.{some-of, get-front, get-past, IsTaken, disk-at}
use Rattle.migration.proofs.Left.{left-unopened, only-opened, left-opened, was-open}

module _ {D : Type 0} (shown : D → DiskShown) (terms : Terms) (digest : List ℕ) where
  -- one book more
  pub open-more : (disks left : List D) (books : List (BookOf D)) (n : ℕ) (disk : D) (b : BookOf D) → AreOpen shown terms digest disks books → length books ≡ n → IsTaken disks left n disk
      → Opens shown (owner_of terms n digest) disk b → AreOpen shown terms digest disks (books ++ b ∷ [])
  open-more disks left books n disk b are size next opens =
      let longer : length (books ++ b ∷ []) ≡ n + 1 = omega (arith, length-append books (b ∷ []), size) in
      let At : ℕ → D → BookOf D → Type 0 = λ k x m. Opens shown (owner_of terms k digest) x m in
      record {
        within = omega (arith, longer, next.within);
        each = λ k x m below. elim (cases_lt k (length books)) [
          | inl less ↦ subst (λ (z : BookOf D). At k (get_or disks k x) z) (sym (get-front books (b ∷ []) k m less)) (are.each k x m less)
          | inr beyond ↦
              let here : n ≡ k = omega (arith, beyond, below, longer, size) in
              let last : get_or (books ++ b ∷ []) k m ≡ b = get_or_at books b [] m k (size ∙ here) in
              subst (λ (z : BookOf D). At k (get_or disks k x) z) (sym last) (subst (λ (i : ℕ). At i (get_or disks i x) b) here (subst (λ (z : D). At n z b) (next.here x) opens))
        ];
      }

  counts-at : (n : ℕ) (fault : OpenFault) (before now : ℕ) → CountsFaults {T = ℕ} before now (Err fault) → (now ≡ before) ⊎ (TellsFaultOf n (Err (NotOpened n fault)) × (before ≤ now))
  counts-at n (why.Broken broken) before now counts = inl counts
  counts-at n (why.NotAcceptable number judgement) before now counts = inl counts
  counts-at n why.DiskFault before now counts = inr (refl, counts.0)
  counts-at n why.NoMemory before now counts = inl counts

  module _ (disks left : List D) (books : List (BookOf D)) (n : ℕ) (disk back : D) (fault : OpenFault) (are : AreOpen shown terms digest disks books) (size : length books ≡ n) (next : IsTaken disks left n disk)
      (unopened : IsUnopened shown (owner_of terms n digest) disk back fault) (new : List D) (is : new ≡ disks_of books ++ back ∷ left) where
    long : length (disks_of books) ≡ n
    long = length-map books (λ (b : BookOf D). b.disk) ∙ size

    whole : new ≡ disks_of books ++ back ∷ drop (suc (length (disks_of books))) disks
    whole =
        let suc-n : n + 1 ≡ suc (length (disks_of books)) = omega (arith, long) in
        is ∙ ap (λ l. disks_of books ++ back ∷ l) (next.rest ∙ ap (λ (k : ℕ). drop k disks) suc-n)

    new-before : (k : ℕ) (b : BookOf D) (d : D) → k < n → get_or new k d ≡ (get_or books k b).disk
    new-before k b d less =
        ap (λ l. get_or l k d) whole ∙ get-front (disks_of books) (back ∷ drop (suc (length (disks_of books))) disks) k d (omega (arith, less, long)) ∙ disk-at books k b d (omega (arith, less, size))

    new-here : (d : D) → get_or new n d ≡ back
    new-here d = ap (λ l. get_or l n d) whole ∙ get_or_at (disks_of books) back (drop (suc (length (disks_of books))) disks) d n long

    new-after : (k : ℕ) (d : D) → n < k → get_or new k d ≡ get_or disks k d
    new-after k d more = ap (λ l. get_or l k d) whole ∙ get-past (disks_of books) back disks k d (omega (arith, more, long))

    -- what is said of each target, by whether its book was opened, was refused, or was not tried
    each-of : (P : ℕ → D → D → Type 0) (k : ℕ) (d : D) → ((i : ℕ) (b : BookOf D) → Opens shown (owner_of terms i digest) (get_or disks i d) b → P i (get_or disks i d) b.disk)
        → P n disk back → ((i : ℕ) (x : D) → P i x x) → P k (get_or disks k d) (get_or new k d)
    each-of P k d opened refused untried = elim (cases_lt k n) [
      | inl less ↦
          let below : k < length books = omega (arith, less, size) in
          let b = some-of books k below in
          subst (P k (get_or disks k d)) (sym (new-before k b d less)) (opened k (get_or books k b) (are.each k d b below))
      | inr beyond ↦ elim (cases_lt n k) [
        | inl more ↦ subst (P k (get_or disks k d)) (sym (new-after k d more)) (untried k (get_or disks k d))
        | inr least ↦
            let here : n ≡ k = omega (arith, beyond, least) in
            let At : ℕ → Type 0 = λ i. P i (get_or disks i d) (get_or new i d) in
            subst At here (subst (P n (get_or disks n d)) (sym (new-here d)) (subst (λ (z : D). P n z back) (next.here d) refused))
      ]
    ]

    pub not-opened : (clocks : List ClockHistory) → Moves shown terms digest clocks disks new (Err (NotOpened n fault))
    not-opened clocks = record {
      count = omega (arith, ap length whole, length-append (disks_of books) (back ∷ drop (suc (length (disks_of books))) disks), length-drop (suc (length (disks_of books))) disks, long, next.within);
      left = λ k d c below.
          each-of (λ i x y. IsTrue (is_told (shown y)) → LeavesTarget (owner_of terms i digest) (get_or clocks i c).reports (told_moments (shown x)) (told_moments (shown y))) k d
          (λ i b opens t. left-opened shown (owner_of terms i digest) (get_or disks i d) b opens (get_or clocks i c).reports t)
          (λ t. left-unopened (owner_of terms n digest) (get_or clocks n c).reports (told_moments (shown disk)) (told_moments (shown back)) (unopened.leaves t))
          (λ i x t. inl refl);
      unoffered = record {
        before = λ k d less t.
            let below : k < length books = omega (arith, less, size) in
            let b = some-of books k below in
            let A : D → Type 0 = λ z. AtEach (IsAsOpened (owner_of terms k digest) (told_moments (shown (get_or disks k d))).now.read) (synced_at (told_moments (shown (get_or disks k d)))) (told_moments (shown z)) in
            subst A (sym (new-before k b d less))
            (only-opened shown (owner_of terms k digest) (get_or disks k d) (get_or books k b) (are.each k d b below) (subst (λ (z : D). IsTrue (is_told (shown z))) (new-before k b d less) t));
        here = λ d t.
            let L : D → D → Type 0 = λ x y. LeftUnopened (owner_of terms n digest) (told_moments (shown x)) (told_moments (shown y)) in
            subst (L (get_or disks n d)) (sym (new-here d)) (subst (λ (z : D). L z back) (next.here d) (unopened.leaves (subst (λ (z : D). IsTrue (is_told (shown z))) (new-here d) t)));
        later = λ k d more. new-after k d more;
      };
      told = λ k d below. each-of (λ i x y. IsTrue (is_told (shown y)) → IsTrue (is_told (shown x))) k d (λ i b opens. opens.told) unopened.told (λ i x t. t);
      unclaimed = λ k d below. each-of (λ i x y. IsLeftUnlessClaimed (shown x) (shown y)) k d (λ i b opens is t. absurd (true≢false (sym opens.claimed ∙ is))) unopened.unclaimed (λ i x is t. refl);
      counts = λ k d below. each-of (λ i x y. ((shown y).faults ≡ (shown x).faults) ⊎ (TellsFaultOf i (Err (NotOpened n fault)) × ((shown x).faults ≤ (shown y).faults))) k d
          (λ i b opens. inl opens.steady) (counts-at n fault (shown disk).faults (shown back).faults unopened.counts) (λ i x. inl refl);
      moved = tt;
      cause = record {
        within = next.within;
        before = λ k d less t.
            let below : k < length books = omega (arith, less, size) in
            let b = some-of books k below in
            was-open shown (owner_of terms k digest) (get_or disks k d) (get_or books k b) (are.each k d b below) (subst (λ (z : D). IsTrue (is_told (shown z))) (new-before k b d less) t);
        refused = λ d t. subst (λ (z : D). ReadsClock (owner_of terms n digest) (told_moments (shown z)).now.read (Err fault)) (next.here d) (unopened.refused (subst (λ (z : D). IsTrue (is_told (shown z))) (new-here d) t));
        counts = λ d. subst (λ (z : D). CountsFaults {T = ℕ} (shown z).faults (shown (get_or new n d)).faults (Err fault)) (next.here d) (subst (λ (z : D). CountsFaults {T = ℕ} (shown disk).faults (shown z).faults (Err fault)) (sym (new-here d)) unopened.counts);
      };
    }
