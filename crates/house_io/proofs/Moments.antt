-- How a run of device calls goes on, and which images a moment has.
use Rattle.std.proofs.Common.{IsTrue, false, ◌≡◌, ℕ, List, [], ◌∷◌, ◌++◌, length, get_or, refl, sym, ◌∙◌, ap, subst, arith, append_assoc}
use Rattle.std.proofs.lemmas.List.{ext_get_or}
use Rattle.house_io.specs.Moments.{Moment, Moments, all, IsImage, Torn, settled, IsSettled, written, then, Leaves, EachLeaves, AtEach, Since}

pub leaves_weaker : (P Q : List ℕ → Type 0) (m : Moment) → ((c : List ℕ) → P c → Q c) → Leaves P m → Leaves Q m
leaves_weaker P Q m weaker here = record { read = weaker m.read here.read; images = λ c image. weaker c (here.images c image) }

each-append : (P : List ℕ → Type 0) (xs ys : List Moment) → EachLeaves P xs → EachLeaves P ys → EachLeaves P (xs ++ ys)
each-append P [] ys first second = second
each-append P (x ∷ xs) ys first second = (first.0, each-append P xs ys first.1 second)

each_weaker : (P Q : List ℕ → Type 0) (xs : List Moment) → ((c : List ℕ) → P c → Q c) → EachLeaves P xs → EachLeaves Q xs
each_weaker P Q [] weaker each = tt
each_weaker P Q (x ∷ xs) weaker each = (leaves_weaker P Q x weaker each.0, each_weaker P Q xs weaker each.1)

module _ (P : List ℕ → Type 0) where
  -- no call was made
  pub at_start : (ms : Moments) → Leaves P ms.now → AtEach P ms ms
  at_start ms here = record { more = []; grown = refl; each = tt; first = here }

  -- a call that left one moment more
  pub at_next : (old new : Moments) (m : Moment) → Leaves P old.now → new ≡ then old m → Leaves P m → AtEach P old new
  at_next old new m here is next = record { more = m ∷ []; grown = ap all is; each = (next, tt); first = here }

  pub at_both : (old mid new : Moments) → AtEach P old mid → AtEach P mid new → AtEach P old new
  at_both old mid new one two = record {
    more = two.more ++ one.more;
    grown = two.grown ∙ ap (λ (l : List Moment). two.more ++ l) one.grown ∙ sym (append_assoc two.more one.more (all old));
    each = each-append P two.more one.more two.each one.each;
    first = one.first;
  }

  pub at_weaker : (Q : List ℕ → Type 0) (old new : Moments) → ((c : List ℕ) → P c → Q c) → AtEach P old new → AtEach Q old new
  at_weaker Q old new weaker so_far = record {
    more = so_far.more;
    grown = so_far.grown;
    each = each_weaker P Q so_far.more weaker so_far.each;
    first = leaves_weaker P Q old.now weaker so_far.first;
  }

  pub at_now : (old new : Moments) → AtEach P old new → Leaves P new.now
  at_now old new so_far = newest so_far.more so_far.grown so_far.each
    where
      newest : (more : List Moment) → all new ≡ more ++ all old → EachLeaves P more → Leaves P new.now
      newest [] grown each = let e : new.now ≡ old.now = cc in subst (Leaves P) (sym e) so_far.first
      newest (m ∷ more) grown each = let e : new.now ≡ m = cc in subst (Leaves P) (sym e) each.0

-- a settled file is its only image
pub only_settled : (file image : List ℕ) → IsImage (settled file) image → image ≡ file
only_settled file image is = ext_get_or 0 image file (omega (arith, is.no_shorter, is.no_longer)) (λ i below. is.same i (omega (arith, below, is.no_longer)) tt)

-- after one write to a settled file
pub image_torn : (file read image : List ℕ) (at n : ℕ) → IsImage (written at n read (settled file)) image → Torn at n file image
image_torn file read image at n is = record {
  no_shorter = is.no_shorter;
  no_longer = omega (arith, is.no_longer);
  same = λ i below outside. is.same i below (outside, tt);
}

pub settled_torn : (file image : List ℕ) (at n : ℕ) → image ≡ file → Torn at n file image
settled_torn file image at n is = record {
  no_shorter = omega (arith, ap length is);
  no_longer = omega (arith, ap length is);
  same = λ i below outside. ap (λ (l : List ℕ). get_or l i 0) is;
}

pub leaves_settled : (P : List ℕ → Type 0) (file : List ℕ) → P file → Leaves P (settled file)
leaves_settled P file has = record { read = has; images = λ c image. subst P (sym (only_settled file c image)) has }

pub leaves_here : (P : List ℕ → Type 0) (m : Moment) → IsSettled m → P m.read → Leaves P m
leaves_here P m is has = subst (Leaves P) (sym is) (leaves_settled P m.read has)

pub leaves_written : (file read : List ℕ) (at n : ℕ) → Torn at n file read → Leaves (Torn at n file) (written at n read (settled file))
leaves_written file read at n torn = record { read = torn; images = λ c image. image_torn file read c at n image }

-- from the present moment on
pub since_now : (P : List ℕ → Type 0) (ms : Moments) → Leaves P ms.now → Since P (length ms.past) ms
since_now P ms here = record { more = ms.now ∷ []; earlier = ms.past; split = refl; number = refl; each = (here, tt) }

pub since_on : (P Q R : List ℕ → Type 0) (t : ℕ) (old new : Moments) → ((c : List ℕ) → P c → R c) → ((c : List ℕ) → Q c → R c) → Since P t old → AtEach Q old new → Since R t new
since_on P Q R t old new from_old from_new so_far call = record {
  more = call.more ++ so_far.more;
  earlier = so_far.earlier;
  split = call.grown ∙ ap (λ (l : List Moment). call.more ++ l) so_far.split ∙ sym (append_assoc call.more so_far.more so_far.earlier);
  number = so_far.number;
  each = each-append R call.more so_far.more (each_weaker Q R call.more from_new call.each) (each_weaker P R so_far.more from_old so_far.each);
}

-- what a read gives is an image: of a settled file, and after a write that a crash cuts short
pub image_now : (file : List ℕ) → IsImage (settled file) file
image_now file = record { no_shorter = omega arith; no_longer = omega arith; same = λ i below outside. refl }

pub image-written : (m : Moment) (file : List ℕ) (at n : ℕ) → IsImage m m.read → Torn at n m.read file → IsImage (written at n file m) file
image-written m file at n is torn = record {
  no_shorter = omega (arith, is.no_shorter, torn.no_shorter);
  no_longer = omega (arith, is.no_longer, torn.no_longer);
  same = λ i below outside. torn.same i (omega (arith, below, is.no_shorter)) outside.0 ∙ is.same i below outside.1;
}

-- a disk that never tells
pub never : {P : Type 0} → IsTrue false → P
never {P = P} told = cc told
