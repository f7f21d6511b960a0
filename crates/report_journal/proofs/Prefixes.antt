-- A header at the front of the bytes after a file's gate.
use Rattle.std.proofs.Common.{◌≡◌, ◌≢◌, ◌⊎◌, ⊎_elim, ℕ, suc, ◌+◌, ◌-◌, ◌*◌, ◌^◌, ◌<◌, ◌≤◌, min, List, [], ◌∷◌, ◌++◌, length, get_or, take, drop, Option, Some, None, refl, sym, ◌∙◌, ap, subst, arith, append_assoc, take-append-drop, length-append, length-drop}
use Rattle.std.proofs.lemmas.List.{take_at, drop_at, drop-drop, drop-take, take-take, length-take-le, get_or-take, take_more_set, flat_map_more}
use Rattle.byte_numbers.specs.Spelling.{big_bytes, big_number}
use Rattle.byte_numbers.proofs.Spelled.{read_back}
use Rattle.std.proofs.Math.ListN.{set}
use Rattle.std.proofs.Math.Seq.{take-add}
use Rattle.std.specs.Option.{IfSome, IfNone}
use Rattle.std.specs.List.{AllByRecursion, flat_map}
use Rattle.lot_base.specs.declared.limits.TheConstants.{MOST_GOODS}
use Rattle.report_journal.specs.declared.spellings.TheConstants.{OPEN, SHORTEST_FORMED}
use Rattle.report_journal.specs.declared.headers.Header.{Header}
use Rattle.report_journal.specs.Format.{HasOpening, IsHeader, first_name, second_name, name_of, opening_bytes, header_bytes, first_gate, HasNoHeader}
use Rattle.report_journal.specs.Fronts.{IsFollowed, OpensWith, IsOpeningAt, BeginsWith, HasHeader}
use Rattle.report_journal.specs.Scans.{unread_header}

-- what follows
pub followed_by : (spelled bytes : List ℕ) → IsFollowed spelled bytes → bytes ≡ spelled ++ drop (length spelled) bytes
followed_by spelled bytes is = sym (take-append-drop (length spelled) bytes) ∙ ap (λ (l : List ℕ). l ++ drop (length spelled) bytes) is.begins

pub followed_at : (spelled rest bytes : List ℕ) → bytes ≡ spelled ++ rest → 1 ≤ length rest → IsFollowed spelled bytes
followed_at spelled rest bytes is some = record {
  begins = ap (λ (l : List ℕ). take (length spelled) l) is ∙ take_at spelled rest (length spelled) refl;
  more = omega (arith, ap length is, length-append spelled rest, some);
}

-- the prices of an opening
length-flat_map : (prices : List ℕ) → length (flat_map (big_bytes 4) prices) ≡ 4 * length prices
length-flat_map [] = refl
length-flat_map (x ∷ prices) = omega (arith, length-append (big_bytes 4 x) (flat_map (big_bytes 4) prices), length-flat_map prices)

one_prices : (p q r s : List ℕ) → length p ≡ length q → AllByRecursion (λ price. price < 2 ^ 32) p → AllByRecursion (λ price. price < 2 ^ 32) q
    → flat_map (big_bytes 4) p ++ r ≡ flat_map (big_bytes 4) q ++ s → p ≡ q
one_prices [] [] r s long all all' same = refl
one_prices [] (y ∷ q) r s long all all' same = absurd (omega (arith, long))
one_prices (x ∷ p) [] r s long all all' same = absurd (omega (arith, long))
one_prices (x ∷ p) (y ∷ q) r s long all all' same =
    let more = flat_map (big_bytes 4) p ++ r in
    let more' = flat_map (big_bytes 4) q ++ s in
    let both : big_bytes 4 x ++ more ≡ big_bytes 4 y ++ more' = sym (append_assoc (big_bytes 4 x) (flat_map (big_bytes 4) p) r) ∙ same ∙ append_assoc (big_bytes 4 y) (flat_map (big_bytes 4) q) s in
    let first : big_bytes 4 x ≡ big_bytes 4 y = sym (take_at (big_bytes 4 x) more 4 refl) ∙ ap (λ (l : List ℕ). take 4 l) both ∙ take_at (big_bytes 4 y) more' 4 refl in
    let rest : more ≡ more' = sym (drop_at (big_bytes 4 x) more 4 refl) ∙ ap (λ (l : List ℕ). drop 4 l) both ∙ drop_at (big_bytes 4 y) more' 4 refl in
    let heads : x ≡ y = sym (read_back 4 x all.0) ∙ ap (big_number 4) first ∙ read_back 4 y all'.0 in
    let tails : p ≡ q = one_prices p q r s (omega (arith, long)) all.1 all'.1 rest in
    λ i. heads i ∷ tails i

-- one more price that was read
pub prices_more : (prices bytes : List ℕ) (i price n : ℕ) → i < length prices → flat_map (big_bytes 4) (take i prices) ≡ take (4 * i) bytes → n ≡ 4
    → big_bytes 4 price ≡ take n (drop (4 * i) bytes) → flat_map (big_bytes 4) (take (i + 1) (set prices i price)) ≡ take (4 * (i + 1)) bytes
prices_more prices bytes i price n room before four spelled =
    let e : 4 * i + 4 ≡ 4 * (i + 1) = omega arith in
    ap (λ (l : List ℕ). flat_map (big_bytes 4) l) (take_more_set prices i price room)
    ∙ sym (flat_map_more (big_bytes 4) [] (take i prices) price)
    ∙ (λ k. before k ++ (spelled ∙ ap (λ (m : ℕ). take m (drop (4 * i) bytes)) four) k)
    ∙ sym (take-add (4 * i) 4 bytes)
    ∙ ap (λ (k : ℕ). take k bytes) e

all_push : (prices : List ℕ) (price : ℕ) → AllByRecursion (λ x. x < 2 ^ 32) prices → price < 2 ^ 32 → AllByRecursion (λ x. x < 2 ^ 32) (prices ++ price ∷ [])
all_push [] price all fits = (fits, tt)
all_push (x ∷ prices) price all fits = (all.0, all_push prices price all.1 fits)

pub prices_fit : (prices : List ℕ) (i price : ℕ) → i < length prices → AllByRecursion (λ x. x < 2 ^ 32) (take i prices) → price < 2 ^ 32
    → AllByRecursion (λ x. x < 2 ^ 32) (take (i + 1) (set prices i price))
prices_fit prices i price room all fits = subst (AllByRecursion (λ x. x < 2 ^ 32)) (sym (take_more_set prices i price room)) (all_push (take i prices) price all fits)

record IsSame (o o' : Option (List ℕ)) (v v' : ℕ) : Type 0 where
  pub openings : o ≡ o'
  pub versions : v ≡ v'

one_opening : (o o' : Option (List ℕ)) (v v' : ℕ) (r s : List ℕ) → HasOpening v o → HasOpening v' o' → name_of o ≡ name_of o' → opening_bytes o ++ r ≡ opening_bytes o' ++ s → IsSame o o' v v'
one_opening None None v v' r s has has' names same = record { openings = refl; versions = has ∙ sym has' }
one_opening None (Some q) v v' r s has has' names same = absurd (let e : 0x31 ≡ 0x32 = ap (λ (l : List ℕ). get_or l 3 0) names in omega (arith, e))
one_opening (Some p) None v v' r s has has' names same = absurd (let e : 0x32 ≡ 0x31 = ap (λ (l : List ℕ). get_or l 3 0) names in omega (arith, e))
one_opening (Some p) (Some q) v v' r s has has' names same =
    let long : length p ≡ length q = ap (λ (l : List ℕ). get_or l 1 0) same in
    record { openings = ap Some (one_prices p q r s long has.3 has'.3 (ap (λ (l : List ℕ). drop 2 l) same)); versions = has.0 ∙ sym has'.0 }

-- the parts of a header and what follows
name_length : (o : Option (List ℕ)) → length (name_of o) ≡ 4
name_length None = refl
name_length (Some p) = refl

record Parts (h : Header) (bytes rest : List ℕ) : Type 0 where
  pub name : take 4 bytes ≡ name_of h.opening
  pub clock : take 4 (drop 4 bytes) ≡ big_bytes 4 h.clock
  pub digest : take 32 (drop 8 bytes) ≡ h.digest
  pub opening : drop 40 bytes ≡ opening_bytes h.opening ++ rest

regroup : (n c d o rest : List ℕ) → n ++ c ++ d ++ o ++ rest ≡ n ++ (c ++ (d ++ (o ++ rest)))
regroup n c d o rest = simp append_assoc

parts : (h : Header) (bytes rest : List ℕ) → length h.digest ≡ 32 → bytes ≡ header_bytes h ++ rest → Parts h bytes rest
parts h bytes rest long is =
    let n = name_of h.opening in
    let c = big_bytes 4 h.clock in
    let o = opening_bytes h.opening in
    let by_name : bytes ≡ n ++ (c ++ (h.digest ++ (o ++ rest))) = is ∙ regroup n c h.digest o rest in
    let after_name : drop 4 bytes ≡ c ++ (h.digest ++ (o ++ rest)) = ap (λ (l : List ℕ). drop 4 l) by_name ∙ drop_at n (c ++ (h.digest ++ (o ++ rest))) 4 (name_length h.opening) in
    let after_clock : drop 8 bytes ≡ h.digest ++ (o ++ rest) = sym (drop-drop 4 4 bytes) ∙ ap (λ (l : List ℕ). drop 4 l) after_name ∙ drop_at c (h.digest ++ (o ++ rest)) 4 refl in
    record {
      name = ap (λ (l : List ℕ). take 4 l) by_name ∙ take_at n (c ++ (h.digest ++ (o ++ rest))) 4 (name_length h.opening);
      clock = ap (λ (l : List ℕ). take 4 l) after_name ∙ take_at c (h.digest ++ (o ++ rest)) 4 refl;
      digest = ap (λ (l : List ℕ). take 32 l) after_clock ∙ take_at h.digest (o ++ rest) 32 long;
      opening = sym (drop-drop 32 8 bytes) ∙ ap (λ (l : List ℕ). drop 32 l) after_clock ∙ drop_at h.digest (o ++ rest) 32 long;
    }

assembled : (h : Header) (bytes rest : List ℕ) → Parts h bytes rest → bytes ≡ header_bytes h ++ rest
assembled h bytes rest of =
    sym (take-append-drop 4 bytes)
    ∙ ap (λ (l : List ℕ). take 4 bytes ++ l) (sym (take-append-drop 4 (drop 4 bytes)) ∙ ap (λ (l : List ℕ). take 4 (drop 4 bytes) ++ l) (drop-drop 4 4 bytes ∙ sym (take-append-drop 32 (drop 8 bytes)) ∙ ap (λ (l : List ℕ). take 32 (drop 8 bytes) ++ l) (drop-drop 32 8 bytes)))
    ∙ (λ i. of.name i ++ (of.clock i ++ (of.digest i ++ of.opening i)))
    ∙ sym (regroup (name_of h.opening) (big_bytes 4 h.clock) h.digest (opening_bytes h.opening) rest)

-- no two headers stand at the front of the same bytes
pub one_header : (h k : Header) (bytes r s : List ℕ) → IsHeader h → IsHeader k → bytes ≡ header_bytes h ++ r → bytes ≡ header_bytes k ++ s → h ≡ k
one_header h k bytes r s is is' one two =
    let p = parts h bytes r is.digest one in
    let q = parts k bytes s is'.digest two in
    let clocks : h.clock ≡ k.clock =
    sym (read_back 4 h.clock is.clock) ∙ ap (big_number 4) (sym p.clock ∙ q.clock) ∙ read_back 4 k.clock is'.clock in
    let digests : h.digest ≡ k.digest = sym p.digest ∙ q.digest in
    let same = one_opening h.opening k.opening h.version k.version r s is.opening is'.opening (sym p.name ∙ q.name) (sym p.opening ∙ q.opening) in
    λ i. record { version = same.versions i; clock = clocks i; digest = digests i; opening = same.openings i }

-- how long a header is
opening_length : (v : ℕ) (o : Option (List ℕ)) → HasOpening v o → length (opening_bytes o) ≤ 26
opening_length v None has = omega arith
opening_length v (Some p) has = omega (arith, length-flat_map p, has.2)

pub header_length : (h : Header) → IsHeader h → length (header_bytes h) ≡ 40 + length (opening_bytes h.opening)
header_length h is =
    omega (arith, is.digest, name_length h.opening, length-append (name_of h.opening ++ big_bytes 4 h.clock ++ h.digest) (opening_bytes h.opening), length-append (name_of h.opening ++ big_bytes 4 h.clock) h.digest, length-append (name_of h.opening) (big_bytes 4 h.clock))

-- the first gate of each version
pub first_gate_without : (h : Header) → IsHeader h → h.opening ≡ None → first_gate h ≡ 1 + 40
first_gate_without h is none = omega (arith, header_length h is, ap (λ (o : Option (List ℕ)). length (opening_bytes o)) none)

pub first_gate_with : (h : Header) (prices : List ℕ) → IsHeader h → h.opening ≡ Some prices → first_gate h ≡ 1 + 40 + 2 + 4 * length prices
first_gate_with h prices is some = omega (arith, header_length h is, ap (λ (o : Option (List ℕ)). length (opening_bytes o)) some, length-flat_map prices)

pub header_within : (h : Header) → IsHeader h → length (header_bytes h) ≤ 66
header_within h is = omega (arith, header_length h is, opening_length h.version h.opening is.opening)

-- what the bytes of an opening say
pub record Opened (prices bytes : List ℕ) : Type 0 where
  pub mark : get_or bytes 0 0 ≡ 2
  pub count : get_or bytes 1 0 ≡ length prices
  pub long : 3 + 4 * length prices ≤ length bytes

pub opened : (prices bytes : List ℕ) → OpensWith prices bytes → Opened prices bytes
opened prices bytes opens =
    let whole = followed_by (opening_bytes (Some prices)) bytes opens.followed in
    record {
      mark = ap (λ (l : List ℕ). get_or l 0 0) whole;
      count = ap (λ (l : List ℕ). get_or l 1 0) whole;
      long = omega (arith, opens.followed.more, length-flat_map prices);
    }

two_parts : (bytes : List ℕ) → 2 ≤ length bytes → bytes ≡ get_or bytes 0 0 ∷ get_or bytes 1 0 ∷ drop 2 bytes
two_parts [] long = absurd (omega arith)
two_parts (x ∷ []) long = absurd (omega arith)
two_parts (x ∷ y ∷ bytes) long = refl

pub opens : (prices bytes : List ℕ) → 1 ≤ length prices → length prices ≤ MOST_GOODS → AllByRecursion (λ price. price < 2 ^ 32) prices → Opened prices bytes
    → flat_map (big_bytes 4) prices ≡ take (4 * length prices) (drop 2 bytes) → OpensWith prices bytes
opens prices bytes some few fit is spelled =
    let n = 4 * length prices in
    let rest = drop n (drop 2 bytes) in
    let whole : bytes ≡ opening_bytes (Some prices) ++ rest =
    two_parts bytes (omega (arith, is.long))
    ∙ (λ i. is.mark i ∷ is.count i ∷ sym (take-append-drop n (drop 2 bytes)) i)
    ∙ ap (λ (l : List ℕ). 2 ∷ length prices ∷ l ++ rest) (sym spelled) in
    record {
      some = some;
      few = few;
      fit = fit;
      followed = followed_at (opening_bytes (Some prices)) rest bytes whole (omega (arith, length-drop n (drop 2 bytes), length-drop 2 bytes, is.long));
    }

-- what was read of an opening
pub opening_read : (found : Option (List ℕ)) (prices bytes : List ℕ) → IfSome found (λ p. (p ≡ prices) × (1 ≤ length prices) × (length prices ≤ 6))
    → IfNone found ((length prices ≡ 0) ⊎ (6 < length prices)) → AllByRecursion (λ price. price < 2 ^ 32) prices → Opened prices bytes → length prices ≤ MOST_GOODS
    → flat_map (big_bytes 4) prices ≡ take (4 * length prices) (drop 2 bytes) → IsOpeningAt found bytes
opening_read None prices bytes some none fit is few spelled = λ other opens_with.
    let same : length other ≡ length prices = sym (opened other bytes opens_with).count ∙ is.count in
    ⊎_elim (λ zero_prices. omega (arith, zero_prices, same, opens_with.some)) (λ many. omega (arith, many, few)) none
opening_read (Some p) prices bytes some none fit is few spelled = subst (λ (l : List ℕ). OpensWith l bytes) (sym some.0) (opens prices bytes some.1 few fit is spelled)

-- what the bytes of a header say
module _ (bytes : List ℕ) (long : SHORTEST_FORMED ≤ length bytes + 1) (clock : ℕ) (digest : List ℕ) (fits : clock < 2 ^ 32)
    (spelled : big_bytes 4 clock ≡ take 4 (drop 4 bytes)) (digest_is : digest ≡ take 32 (drop 8 bytes)) where
  digest_long : length digest ≡ 32
  digest_long = ap length digest_is ∙ length-take-le 32 (drop 8 bytes) (omega (arith, length-drop 8 bytes, long))

  begins : (h : Header) (rest : List ℕ) → IsHeader h → Parts h bytes rest → 1 ≤ length rest → BeginsWith h bytes
  begins h rest is of some = record { header = is; followed = followed_at (header_bytes h) rest bytes (assembled h bytes rest of) some }

  pub first : take 4 bytes ≡ first_name → BeginsWith (record { version = 1; clock = clock; digest = digest; opening = None }) bytes
  first named =
      begins (record { version = 1; clock = clock; digest = digest; opening = None }) (drop 40 bytes)
      (record { opening = refl; clock = fits; digest = digest_long })
      (record { name = named; clock = sym spelled; digest = sym digest_is; opening = refl })
      (omega (arith, length-drop 40 bytes, long))

  pub second : (prices : List ℕ) → take 4 bytes ≡ second_name → OpensWith prices (drop 40 bytes) → BeginsWith (record { version = 2; clock = clock; digest = digest; opening = Some prices }) bytes
  second prices named opens =
      begins (record { version = 2; clock = clock; digest = digest; opening = Some prices }) (drop (length (opening_bytes (Some prices))) (drop 40 bytes))
      (record { opening = (refl, opens.some, opens.few, opens.fit); clock = fits; digest = digest_long })
      (record { name = named; clock = sym spelled; digest = sym digest_is; opening = followed_by (opening_bytes (Some prices)) (drop 40 bytes) opens.followed })
      (omega (arith, length-drop (length (opening_bytes (Some prices))) (drop 40 bytes), opens.followed.more))

module _ (bytes : List ℕ) (not_first : take 4 bytes ≢ first_name) (not_second : take 4 bytes ≡ second_name → (prices : List ℕ) → OpensWith prices (drop 40 bytes) → ⊥) where
  none_of : (version clock : ℕ) (digest : List ℕ) (o : Option (List ℕ)) → BeginsWith (record { version = version; clock = clock; digest = digest; opening = o }) bytes → ⊥
  none_of version clock digest None is =
      let h : Header = record { version = version; clock = clock; digest = digest; opening = None } in
      not_first (parts h bytes (drop (length (header_bytes h)) bytes) is.header.digest (followed_by (header_bytes h) bytes is.followed)).name
  none_of version clock digest (Some prices) is =
      let h : Header = record { version = version; clock = clock; digest = digest; opening = Some prices } in
      let rest = drop (length (header_bytes h)) bytes in
      let of = parts h bytes rest is.header.digest (followed_by (header_bytes h) bytes is.followed) in
      not_second of.name prices (record {
        some = is.header.opening.1;
        few = is.header.opening.2;
        fit = is.header.opening.3;
        followed = followed_at (opening_bytes (Some prices)) rest (drop 40 bytes) of.opening (omega (arith, length-drop (length (header_bytes h)) bytes, is.followed.more));
      })

  pub none : (h : Header) → BeginsWith h bytes → ⊥
  none h is = none_of h.version h.clock h.digest h.opening is

-- the bytes that were read of the front of a file
first_taken : (file : List ℕ) (n : ℕ) → 1 ≤ length file → take (1 + n) file ≡ get_or file 0 0 ∷ take n (drop 1 file)
first_taken [] n some = absurd (omega arith)
first_taken (x ∷ file) n some = let e : 1 + n ≡ suc n = omega arith in ap (λ (k : ℕ). take k (x ∷ file)) e

module _ (file into : List ℕ) (count : ℕ) (is : count ≡ min 68 (length file)) (same : take count into ≡ take count file) (long : SHORTEST_FORMED ≤ count) (opened : get_or into 0 0 ≡ OPEN) where
  abbrev bytes : List ℕ
  bytes = take (count - 1) (drop 1 into)

  bytes_are : bytes ≡ take (count - 1) (drop 1 file)
  bytes_are =
      let e : count ≡ 1 + (count - 1) = omega (arith, long) in
      sym (drop-take 1 (count - 1) into) ∙ ap (λ (k : ℕ). drop 1 (take k into)) (sym e) ∙ ap (λ (l : List ℕ). drop 1 l) same ∙ ap (λ (k : ℕ). drop 1 (take k file)) e ∙ drop-take 1 (count - 1) file

  pub bytes_length : length bytes ≡ count - 1
  bytes_length = ap length bytes_are ∙ length-take-le (count - 1) (drop 1 file) (omega (arith, length-drop 1 file, is))

  pub opened_file : get_or file 0 0 ≡ OPEN
  opened_file = sym (get_or-take count file 0 0 (omega (arith, long))) ∙ ap (λ (l : List ℕ). get_or l 0 0) (sym same) ∙ get_or-take count into 0 0 (omega (arith, long)) ∙ opened

  within : (a n : ℕ) → a + n ≤ count - 1 → take n (drop a bytes) ≡ take n (drop (1 + a) file)
  within a n room =
      let m = count - 1 - a in
      let e : count - 1 ≡ a + m = omega (arith, room) in
      ap (λ (l : List ℕ). take n (drop a l)) bytes_are
      ∙ ap (λ (k : ℕ). take n (drop a (take k (drop 1 file)))) e
      ∙ ap (λ (l : List ℕ). take n l) (drop-take a m (drop 1 file))
      ∙ take-take n m (drop a (drop 1 file)) (omega (arith, room))
      ∙ ap (λ (l : List ℕ). take n l) (drop-drop a 1 file)

  pub headed : (h : Header) → BeginsWith h bytes → HasHeader h file
  headed h begins =
      let n = length (header_bytes h) in
      record {
        header = begins.header;
        begins = first_taken file n (omega (arith, is, long)) ∙ (λ i. opened_file i ∷ (sym (within 0 n (omega (arith, begins.followed.more, bytes_length))) ∙ begins.followed.begins) i);
        more = omega (arith, begins.followed.more, bytes_length, is);
      }

  pub headless : ((h : Header) → BeginsWith h bytes → ⊥) → HasNoHeader file
  headless unspelled = record {
    formed = λ unformed. ⊎_elim (λ short. omega (arith, short, is, long)) (λ shut. shut opened_file) unformed;
    none = λ h byte rest is_header whole.
        let n = length (header_bytes h) in
        let room : n + 1 ≤ count - 1 = omega (arith, is, header_within h is_header, ap length whole, length-append (OPEN ∷ header_bytes h) (byte ∷ rest)) in
        unspelled h (record {
          header = is_header;
          followed = record {
            begins = within 0 n (omega (arith, room)) ∙ ap (λ (l : List ℕ). take n (drop 1 l)) whole ∙ take_at (header_bytes h) (byte ∷ rest) n refl;
            more = omega (arith, room, bytes_length);
          };
        });
  }

  pub unread : unread_header (OPEN ∷ bytes) ≡ unread_header file
  unread =
      let clocks = ap (big_number 4) (within 4 4 (omega (arith, long))) in
      let digests = within 8 32 (omega (arith, long)) in
      λ i. record { version = 0; clock = clocks i; digest = digests i; opening = None }

-- prices that fit their type
pub all_fit : (prices : List ℕ) → ((i : ℕ) → get_or prices i 0 < 2 ^ 32) → AllByRecursion (λ price. price < 2 ^ 32) prices
all_fit [] fits = tt
all_fit (x ∷ prices) fits = (fits 0, all_fit prices (λ i. fits (suc i)))
