-- A stream of frames is read in one way, in pieces as whole.
use Rattle.std.proofs.Common.{◌≡◌, inl, inr, ⊎_elim, ℕ, ◌^◌, ◌<◌, true, List, [], ◌∷◌, ◌++◌, length, get_or, take, drop, refl, sym, ◌∙◌, ap, subst, arith, append_assoc, length-append}
use Rattle.std.specs.Prelude.{Option, Some, None, MatchOption}
use Rattle.std.proofs.lemmas.Bool.{both_ways}
use Rattle.std.proofs.lemmas.List.{take_at, drop_at}
use Rattle.byte_numbers.specs.Spelling.{big_bytes, big_number}
use Rattle.byte_numbers.proofs.Spelled.{read_back}
use Rattle.std.specs.List.{AllByRecursion, flat_map}
use Rattle.report_wire.specs.declared.frames.WireKind.{WireKind}
use Rattle.report_wire.specs.declared.frames.WireKind.TheVariants.{TooLong, UnknownKind, BadPayload}
use Rattle.report_wire.specs.Frames.{Direction, Sent, IsSent, IsPartial, IsFault, Reads, spelled, stream_of, length_at, payload_at}

number_is : (m n : ℕ) (x y : List ℕ) → m < 2 ^ 32 → n < 2 ^ 32 → big_bytes 4 m ++ x ≡ big_bytes 4 n ++ y → (m ≡ n) × (x ≡ y)
number_is m n x y m_fits n_fits same =
    let first : big_bytes 4 m ≡ big_bytes 4 n = ap (λ (l : List ℕ). take 4 l) same in
    let rest : x ≡ y = ap (λ (l : List ℕ). drop 4 l) same in
    (sym (read_back 4 m m_fits) ∙ ap (big_number 4) first ∙ read_back 4 n n_fits, rest)

-- frames in two lists, and what follows them
pub stream_on : (ms ns : List Sent) (rest : List ℕ) → stream_of (ms ++ ns) rest ≡ stream_of ms (stream_of ns rest)
stream_on [] ns rest = refl
stream_on (m ∷ ms) ns rest =
    append_assoc (spelled m) (flat_map spelled (ms ++ ns)) rest ∙ ap (λ (l : List ℕ). spelled m ++ l) (stream_on ms ns rest)
    ∙ sym (append_assoc (spelled m) (flat_map spelled ms) (stream_of ns rest))

pub all-append : {A : Type 0} (P : A → Type 0) (xs ys : List A) → AllByRecursion P xs → AllByRecursion P ys → AllByRecursion P (xs ++ ys)
all-append P [] ys px py = py
all-append P (x ∷ xs) ys px py = (px.0, all-append P xs ys px.1 py)

-- what was read so far, and of the rest with the next piece, is what is read of the stream with that piece
pub pieces : (d : Direction) (ms ns : List Sent) (stream r piece t : List ℕ) (f : Option WireKind)
    → Reads d stream ms r None → Reads d (r ++ piece) ns t f → Reads d (stream ++ piece) (ms ++ ns) t f
pieces d ms ns stream r piece t f before more = record {
  whole = ap (λ (l : List ℕ). l ++ piece) before.whole ∙ append_assoc (flat_map spelled ms) r piece ∙ ap (λ (l : List ℕ). flat_map spelled ms ++ l) more.whole ∙ sym (stream_on ms ns t);
  each = all-append (IsSent d) ms ns before.each more.each;
  ends = more.ends;
}

module _ (d : Direction) (formed : (kind : ℕ) (payload : List ℕ) → d.is_payload kind payload ≡ true → (d.is_kind kind ≡ true) × (d.allows kind (length payload) ≡ true)) where
  sized : (m : Sent) (x : List ℕ) → IsSent d m → length_at (spelled m ++ x) ≡ length m.payload
  sized m x is = read_back 4 (length m.payload) (let s = is.short in omega arith)

  -- no frame begins another
  pub no_prefix : (m n : Sent) (x y : List ℕ) → IsSent d m → IsSent d n → spelled m ++ x ≡ spelled n ++ y → (m ≡ n) × (x ≡ y)
  no_prefix m n x y is_m is_n same =
      let sm = is_m.short in
      let sn = is_n.short in
      let numbers = number_is (length m.payload) (length n.payload) (m.kind ∷ m.payload ++ x) (n.kind ∷ n.payload ++ y) (omega arith) (omega arith)
      (sym (append_assoc (big_bytes 4 (length m.payload)) (m.kind ∷ m.payload) x) ∙ same ∙ append_assoc (big_bytes 4 (length n.payload)) (n.kind ∷ n.payload) y) in
      let kinds : m.kind ≡ n.kind = ap (λ (l : List ℕ). get_or l 0 0) numbers.1 in
      let tails : m.payload ++ x ≡ n.payload ++ y = ap (λ (l : List ℕ). drop 1 l) numbers.1 in
      let size = length m.payload in
      let payloads : m.payload ≡ n.payload = sym (take_at m.payload x size refl) ∙ ap (λ (l : List ℕ). take size l) tails ∙ take_at n.payload y size (sym numbers.0) in
      let rests : x ≡ y = sym (drop_at m.payload x size refl) ∙ ap (λ (l : List ℕ). drop size l) tails ∙ drop_at n.payload y size (sym numbers.0) in
      ((λ i. record { kind = kinds i; payload = payloads i }), rests)

  whole_is_not_partial : (m : Sent) (x : List ℕ) → IsSent d m → IsPartial d (spelled m ++ x) → ⊥
  whole_is_not_partial m x is (inl less) = omega (arith, less, length-append (spelled m) x)
  whole_is_not_partial m x is (inr (inl less)) = omega (arith, less.0, length-append (spelled m) x)
  whole_is_not_partial m x is (inr (inr less)) = omega (arith, less.2, sized m x is, length-append (spelled m) x)

  whole_is_not_faulty : (f : WireKind) (m : Sent) (x : List ℕ) → IsSent d m → IsFault d f (spelled m ++ x) → ⊥
  whole_is_not_faulty (TooLong n) m x is h = omega (arith, h.1, h.2, sized m x is, is.short)
  whole_is_not_faulty (UnknownKind k) m x is h = both_ways (d.is_kind k) h.3 (subst (λ (j : ℕ). d.is_kind j ≡ true) h.2 (formed m.kind m.payload is.formed).0)
  whole_is_not_faulty (BadPayload k n) m x is h =
      let n_is : length m.payload ≡ n = sym (sized m x is) ∙ h.1 in
      let k_is : m.kind ≡ k = h.2 in
      ⊎_elim
      (λ no. both_ways (d.allows k n) no (subst (λ (j : ℕ). d.allows k j ≡ true) n_is (subst (λ (j : ℕ). d.allows j (length m.payload) ≡ true) k_is (formed m.kind m.payload is.formed).1)))
      (λ no. let p : payload_at (spelled m ++ x) ≡ m.payload = take_at m.payload x (length_at (spelled m ++ x)) (sym (sized m x is)) in
      both_ways (d.is_payload k (payload_at (spelled m ++ x))) no.1 (subst (λ (l : List ℕ). d.is_payload k l ≡ true) (sym p) (subst (λ (j : ℕ). d.is_payload j m.payload ≡ true) k_is is.formed)))
      h.3

  partial_is_not_faulty : (f : WireKind) (x : List ℕ) → IsPartial d x → IsFault d f x → ⊥
  partial_is_not_faulty (TooLong n) x (inl p) h = omega (arith, p, h.0)
  partial_is_not_faulty (TooLong n) x (inr (inl p)) h = omega (arith, p.1, h.1, h.2)
  partial_is_not_faulty (TooLong n) x (inr (inr p)) h = omega (arith, p.0.short, h.1, h.2)
  partial_is_not_faulty (UnknownKind k) x (inl p) h = omega (arith, p, h.0)
  partial_is_not_faulty (UnknownKind k) x (inr (inl p)) h = omega (arith, p.0, h.0)
  partial_is_not_faulty (UnknownKind k) x (inr (inr p)) h = both_ways (d.is_kind k) h.3 (subst (λ (j : ℕ). d.is_kind j ≡ true) h.2 p.0.known)
  partial_is_not_faulty (BadPayload k n) x (inl p) h = omega (arith, p, h.0.head)
  partial_is_not_faulty (BadPayload k n) x (inr (inl p)) h = omega (arith, p.0, h.0.head)
  partial_is_not_faulty (BadPayload k n) x (inr (inr p)) h =
      ⊎_elim
      (λ no. both_ways (d.allows k n) no (subst (λ (j : ℕ). d.allows k j ≡ true) h.1 (subst (λ (j : ℕ). d.allows j (length_at x) ≡ true) h.2 p.1)))
      (λ no. omega (arith, no.0, p.2, h.1))
      h.3

  same_fault : (f g : WireKind) (x : List ℕ) → IsFault d f x → IsFault d g x → f ≡ g
  same_fault (TooLong n) (TooLong m) x p q = ap TooLong (sym p.1 ∙ q.1)
  same_fault (TooLong n) (UnknownKind k) x p q = absurd (omega (arith, p.1, p.2, q.1))
  same_fault (TooLong n) (BadPayload k m) x p q = absurd (omega (arith, p.1, p.2, q.0.short))
  same_fault (UnknownKind k) (TooLong m) x p q = absurd (omega (arith, q.1, q.2, p.1))
  same_fault (UnknownKind k) (UnknownKind j) x p q = ap UnknownKind (sym p.2 ∙ q.2)
  same_fault (UnknownKind k) (BadPayload j m) x p q = absurd (both_ways (d.is_kind k) p.3 (subst (λ (i : ℕ). d.is_kind i ≡ true) p.2 q.0.known))
  same_fault (BadPayload k n) (TooLong m) x p q = absurd (omega (arith, q.1, q.2, p.0.short))
  same_fault (BadPayload k n) (UnknownKind j) x p q = absurd (both_ways (d.is_kind j) q.3 (subst (λ (i : ℕ). d.is_kind i ≡ true) q.2 p.0.known))
  same_fault (BadPayload k n) (BadPayload j m) x p q = let e : k ≡ j = sym p.2 ∙ q.2 in let l : n ≡ m = sym p.1 ∙ q.1 in λ i. BadPayload (e i) (l i)

  same_end : (f g : Option WireKind) (r : List ℕ) → MatchOption f (IsPartial d r) (λ h. IsFault d h r) → MatchOption g (IsPartial d r) (λ h. IsFault d h r) → f ≡ g
  same_end None None r p q = refl
  same_end None (Some g) r p q = absurd (partial_is_not_faulty g r p q)
  same_end (Some f) None r p q = absurd (partial_is_not_faulty f r q p)
  same_end (Some f) (Some g) r p q = ap Some (same_fault f g r p q)

  no_end : (f : Option WireKind) (r : List ℕ) (m : Sent) (x : List ℕ) → r ≡ spelled m ++ x → IsSent d m → MatchOption f (IsPartial d r) (λ h. IsFault d h r) → ⊥
  no_end None r m x e is p = whole_is_not_partial m x is (subst (IsPartial d) e p)
  no_end (Some f) r m x e is p = whole_is_not_faulty f m x is (subst (IsFault d f) e p)

  -- a stream is read in one way
  pub one_reading : (ms ns : List Sent) (stream r t : List ℕ) (f g : Option WireKind) → Reads d stream ms r f → Reads d stream ns t g → (ms ≡ ns) × (r ≡ t) × (f ≡ g)
  one_reading [] [] stream r t f g one two =
      let e : r ≡ t = sym one.whole ∙ two.whole in
      (refl, e, same_end f g t (subst (λ (l : List ℕ). MatchOption f (IsPartial d l) (λ h. IsFault d h l)) e one.ends) two.ends)
  one_reading [] (n ∷ ns) stream r t f g one two =
      absurd (no_end f r n (stream_of ns t) (sym one.whole ∙ two.whole ∙ append_assoc (spelled n) (flat_map spelled ns) t) two.each.0 one.ends)
  one_reading (m ∷ ms) [] stream r t f g one two =
      absurd (no_end g t m (stream_of ms r) (sym two.whole ∙ one.whole ∙ append_assoc (spelled m) (flat_map spelled ms) r) one.each.0 two.ends)
  one_reading (m ∷ ms) (n ∷ ns) stream r t f g one two =
      let first = no_prefix m n (stream_of ms r) (stream_of ns t) one.each.0 two.each.0
      (sym (append_assoc (spelled m) (flat_map spelled ms) r) ∙ sym one.whole ∙ two.whole ∙ append_assoc (spelled n) (flat_map spelled ns) t) in
      let rest = one_reading ms ns (stream_of ms r) r t f g (record { whole = refl; each = one.each.1; ends = one.ends }) (record { whole = first.1; each = two.each.1; ends = two.ends }) in
      ((λ i. first.0 i ∷ rest.0 i), rest.1, rest.2)
