-- The lines of what is decided of a bidder.
use Rattle.std.proofs.Common.{◌≡◌, ◌∙◌, ◌<◌, ◌≤◌, ◌+◌, ◌-◌, ◌++◌, ℕ, zero, suc, List, [], ◌∷◌, length, get_or, drop, map, take, Some, None, arith, refl, sym, ap, subst, append_assoc, append-nil}
use Rattle.std.specs.Prelude.{ℤ, codes, decimal, slice_get}
use Rattle.std.specs.Fmt.{signed_decimal}
use Rattle.std.specs.List.{AllByRecursion, range_with_len}
use Rattle.std.proofs.lemmas.List.{get_or_default, length-append, length-map, map-append, take_more}
use Rattle.clock.specs.Reports.{ClockHistory}
use Rattle.award_assembly.proofs.Walking.{drop-at}
use Rattle.rationale.specs.Links.{IsChain, IsNegativeCycle}
use Rattle.rationale.specs.Observations.{Observation}
use Rattle.rationale.specs.declared.links.Link.{Link}
use Rattle.observed_demand.specs.Reported.{observation_in, observations_of, place_in, places_of, reports_by}
use Rattle.observed_demand.specs.declared.observing.Place.{Place}
use Rattle.outcome_text.specs.Lines.{line, numerals, text_of}
use Rattle.outcome_text.specs.Spaced.{spaced}
use Rattle.outcome_text.proofs.Lining.{line-spaced, spaced-append}
use Rattle.house_run.specs.JudgeCommand.{link_lines, link_words, place_of, value_lines, value_words}
use Rattle.house_run.proofs.Lining.{text-append}
use Rattle.house_run.proofs.Pairing.{two-bundles}

-- values, one after another

value-parts : (value xs u l : List ℕ) → (value ++ xs) ++ (codes " " ++ (u ++ l)) ≡ (value ++ (xs ++ ((codes " " ++ u) ++ []))) ++ l
value-parts value xs u l = simp (append_assoc, append-nil)

pub value-line : (x : List ℕ) (u : ℤ) (a b c : List ℕ) → a ≡ codes "value" → b ≡ a ++ spaced (numerals x) → c ≡ b ++ (codes " " ++ (signed_decimal u ++ codes "\n")) → c ≡ line (value_words x u)
value-line x u a b c is-a is-b is-c =
    is-c ∙ ap (λ t. t ++ (codes " " ++ (signed_decimal u ++ codes "\n"))) (is-b ∙ ap (λ t. t ++ spaced (numerals x)) is-a)
    ∙ value-parts (codes "value") (spaced (numerals x)) (signed_decimal u) (codes "\n")
    ∙ ap (λ t. (codes "value" ++ t) ++ codes "\n") (sym (spaced-append (numerals x) (signed_decimal u ∷ [])))
    ∙ sym (line-spaced (codes "value") (numerals x ++ (signed_decimal u ∷ [])))

drop-or : {X : Type 0} (xs : List X) (i : ℕ) (x d : X) → i < length xs → x ≡ get_or xs i d → drop i xs ≡ x ∷ drop (i + 1) xs
drop-or [] i x d below is = absurd (omega arith)
drop-or (y ∷ xs) zero x d below is = ap (λ z. z ∷ xs) (sym is)
drop-or (y ∷ xs) (suc i) x d below is = (let e : suc i + 1 ≡ suc (i + 1) = omega arith in drop-or xs i x d (omega arith) is ∙ ap (λ k. x ∷ drop k (y ∷ xs)) (sym e))

pub values-next : (xs : List (List ℕ)) (us : List ℤ) (i : ℕ) (x : List ℕ) (u d : ℤ) (text line-text new whole : List ℕ) → slice_get xs i ≡ Some x → i < length us → u ≡ get_or us i d
    → line-text ≡ line (value_words x u) → new ≡ text ++ line-text → text ++ text_of (value_lines (drop i xs) (drop i us)) ≡ whole → new ++ text_of (value_lines (drop (i + 1) xs) (drop (i + 1) us)) ≡ whole
values-next xs us i x u d text line-text new whole at below is written more are =
    let rest = text_of (value_lines (drop (i + 1) xs) (drop (i + 1) us)) in
    let a = drop-at xs i x at in
    let b = drop-or us i u d below is in
    let here : text_of (value_lines (drop i xs) (drop i us)) ≡ line (value_words x u) ++ rest = (λ k. text_of (value_lines (a k) (b k))) in
    ap (λ t. t ++ rest) (more ∙ ap (λ t. text ++ t) written) ∙ append_assoc text (line (value_words x u)) rest ∙ ap (λ t. text ++ t) (sym here) ∙ are

all-dropped : {X : Type 0} (xs : List X) (i : ℕ) → length xs ≤ i → drop i xs ≡ []
all-dropped [] zero e = refl
all-dropped [] (suc i) e = refl
all-dropped (x ∷ xs) zero e = absurd (omega arith)
all-dropped (x ∷ xs) (suc i) e = all-dropped xs i (omega arith)

no-values : (xs : List (List ℕ)) → value_lines xs [] ≡ []
no-values [] = refl
no-values (x ∷ xs) = refl

values-head : (bidder size : List ℕ) → codes "rational bidder " ++ (bidder ++ (codes " bundles " ++ (size ++ codes "\n"))) ≡ line (codes "rational" ∷ codes "bidder" ∷ bidder ∷ codes "bundles" ∷ size ∷ [])
values-head bidder size = simp append_assoc

-- all values after the first line
pub values-all : (bidder found size : ℕ) (xs : List (List ℕ)) (us : List ℤ) (i : ℕ) (start text : List ℕ) → found ≡ size → length us ≤ i → start ≡ codes "rational bidder " ++ (decimal bidder ++ (codes " bundles " ++ (decimal found ++ codes "\n")))
    → text ++ text_of (value_lines (drop i xs) (drop i us)) ≡ start ++ text_of (value_lines xs us) → text ≡ text_of ((codes "rational" ∷ codes "bidder" ∷ decimal bidder ∷ codes "bundles" ∷ decimal size ∷ []) ∷ value_lines xs us)
values-all bidder found size xs us i start text same end is are =
    let none : text_of (value_lines (drop i xs) (drop i us)) ≡ [] = ap text_of (ap (value_lines (drop i xs)) (all-dropped us i end) ∙ no-values (drop i xs)) in
    let head = is ∙ values-head (decimal bidder) (decimal found) ∙ ap (λ n. line (codes "rational" ∷ codes "bidder" ∷ decimal bidder ∷ codes "bundles" ∷ decimal n ∷ [])) same in
    sym (append-nil text) ∙ ap (λ t. text ++ t) (sym none) ∙ are ∙ ap (λ t. t ++ text_of (value_lines xs us)) head

-- links, one after another

link-front : (clock round : List ℕ) → codes "clock " ++ (clock ++ (codes " round " ++ (round ++ codes " x"))) ≡ codes "clock" ++ (spaced (clock ∷ codes "round" ∷ round ∷ []) ++ codes " x")
link-front clock round =
    let x = codes " x" in
    let rest = codes " round " ++ (round ++ []) in
    ap (λ t. codes "clock " ++ t) (ap (λ t. clock ++ (codes " round " ++ (t ++ x))) (sym (append-nil round)) ∙ sym (append_assoc clock rest x))

pub link-line : (place : Place) (link : Link) (a b c d new : List ℕ) → a ≡ codes "clock " ++ (decimal place.clock ++ (codes " round " ++ (decimal place.round ++ codes " x"))) → b ≡ a ++ spaced (numerals link.x) → c ≡ b ++ codes " y"
    → d ≡ c ++ spaced (numerals link.y) → new ≡ d ++ codes "\n" → new ≡ line (link_words place link)
link-line place link a b c d new is-a is-b is-c is-d is-new =
    two-bundles (codes "clock") (decimal place.clock ∷ codes "round" ∷ decimal place.round ∷ []) link.x link.y [] a b c d new (is-a ∙ link-front (decimal place.clock) (decimal place.round)) is-b is-c is-d is-new
    ∙ ap (λ ys. line (codes "clock" ∷ decimal place.clock ∷ codes "round" ∷ decimal place.round ∷ codes "x" ∷ numerals link.x ++ (codes "y" ∷ ys))) (append-nil (numerals link.y))

pub links-next : (places : List Place) (links : List Link) (i : ℕ) (link : Link) (place : Place) (start text line-text new : List ℕ) → i < length links → link ≡ get_or links i link → place ≡ place_of places link
    → line-text ≡ line (link_words place link) → new ≡ text ++ line-text → text ≡ start ++ text_of (link_lines places (take i links)) → new ≡ start ++ text_of (link_lines places (take (i + 1) links))
links-next places links i link place start text line-text new below is there written more are =
    let f : Link → List (List ℕ) = λ l. link_words (place_of places l) l in
    let old = text_of (link_lines places (take i links)) in
    let grown : take (i + 1) links ≡ take i links ++ link ∷ [] = take_more links i link below ∙ ap (λ l. take i links ++ l ∷ []) (sym is) in
    let whole : text_of (link_lines places (take (i + 1) links)) ≡ old ++ line (f link) =
    ap (λ ls. text_of (link_lines places ls)) grown ∙ ap text_of (map-append f (take i links) (link ∷ [])) ∙ text-append (link_lines places (take i links)) (f link ∷ []) ∙ ap (λ t. old ++ t) (append-nil (line (f link))) in
    more ∙ (λ k. are k ++ (written ∙ ap (λ p. line (link_words p link)) there) k) ∙ append_assoc start old (line (f link)) ∙ ap (λ t. start ++ t) (sym whole)

links-head : (bidder count : List ℕ) → codes "irrational bidder " ++ (bidder ++ (codes " links " ++ (count ++ codes "\n"))) ≡ line (codes "irrational" ∷ codes "bidder" ∷ bidder ∷ codes "links" ∷ count ∷ [])
links-head bidder count = simp append_assoc

all-taken : {X : Type 0} (xs : List X) (i : ℕ) → length xs ≤ i → take i xs ≡ xs
all-taken [] zero e = refl
all-taken [] (suc i) e = refl
all-taken (x ∷ xs) zero e = absurd (omega arith)
all-taken (x ∷ xs) (suc i) e = ap (λ ys. x ∷ ys) (all-taken xs i (omega arith))

-- all links after the first line
pub links-all : (bidder count : ℕ) (places : List Place) (links : List Link) (i : ℕ) (start text : List ℕ) → length links ≤ i → start ≡ codes "irrational bidder " ++ (decimal bidder ++ (codes " links " ++ (decimal count ++ codes "\n")))
    → text ≡ start ++ text_of (link_lines places (take i links)) → text ≡ text_of ((codes "irrational" ∷ codes "bidder" ∷ decimal bidder ∷ codes "links" ∷ decimal count ∷ []) ∷ link_lines places links)
links-all bidder count places links i start text end is are =
    let head = is ∙ links-head (decimal bidder) (decimal count) in
    let whole = all-taken links i end in
    are ∙ (λ k. head k ++ text_of (link_lines places (whole k)))

-- the observations of links are known

get-below : {X : Type 0} (xs : List X) (k : ℕ) (x : X) → slice_get xs k ≡ Some x → k < length xs
get-below [] k x at = absurd (let f : None ≡ Some x = at in cc)
get-below (y ∷ xs) zero x at = omega arith
get-below (y ∷ xs) (suc k) x at = let b = get-below xs k x at in omega (arith, b)

-- the number of a link is one of so many observations
abbrev pub IsKnown : ℕ → Link → Type 0
IsKnown count link = (1 ≤ link.observation) × (link.observation ≤ count)

chain-known : (supply : List ℕ) (os : List Observation) (a : List ℕ) (links : List Link) (b : List ℕ) → IsChain supply os a links b → AllByRecursion (IsKnown (length os)) links
chain-known supply os a [] b chain = tt
chain-known supply os a (link ∷ links) b chain =
    let l = chain.0 in
    let from = l.numbered in
    let below = get-below os (link.observation - 1) l.seen l.found in
    ((from, omega (arith, from, below)), chain-known supply os link.y links b chain.2)

pub links-known : (supply : List ℕ) (seen : List Observation) (links : List Link) (count : ℕ) → length seen ≡ count → IsNegativeCycle supply seen links → AllByRecursion (IsKnown count) links
links-known supply seen links count e cycle = subst (λ n. AllByRecursion (IsKnown n) links) e (chain-known supply seen cycle.start links cycle.start cycle.closed)

pub known-at : (count : ℕ) (links : List Link) (i : ℕ) (link : Link) → AllByRecursion (IsKnown count) links → i < length links → link ≡ get_or links i link → IsKnown count link
known-at count [] i link all below is = absurd (omega arith)
known-at count (l ∷ ls) zero link all below is = subst (IsKnown count) (sym is) all.0
known-at count (l ∷ ls) (suc i) link all below is = known-at count ls i link all.1 (omega arith) is

pub place-is : (places : List Place) (link : Link) (d : Place) (k : ℕ) → k ≡ link.observation - 1 → IsKnown (length places) link → get_or places k d ≡ place_of places link
place-is places link d k e known =
    let low = known.0 in
    let high = known.1 in
    ap (λ n. get_or places n d) e ∙ get_or_default places (link.observation - 1) d (record { clock = 0; round = 0 }) (omega (arith, low, high))

-- each observation has a place
pub places-count : (bidder : ℕ) (cs : List ClockHistory) → length (observations_of bidder cs) ≡ length (places_of bidder cs)
places-count bidder [] = refl
places-count bidder (c ∷ cs) =
    let rs = reports_by bidder c in
    let e = length-append (map (observation_in c) rs) (observations_of bidder cs) in
    let f = length-append (map (place_in c) rs) (places_of bidder cs) in
    let a = length-map rs (observation_in c) in
    let b = length-map rs (place_in c) in
    let r = places-count bidder cs in
    omega (arith, e, f, a, b, r)

-- there are as many clocks as numbers
range-count : (a n : ℕ) → length (range_with_len a n) ≡ n
range-count a zero = refl
range-count a (suc n) = ap suc (range-count (a + 1) n)

pub clocks-count : (cs : List ClockHistory) (n : ℕ) → map (λ (c : ClockHistory). c.number) cs ≡ range_with_len 0 n → length cs ≡ n
clocks-count cs n are = sym (length-map cs (λ (c : ClockHistory). c.number)) ∙ ap length are ∙ range-count 0 n
