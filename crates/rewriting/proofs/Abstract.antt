-- Abstract rewriting: a relation `S` on a type `A`, read as one step. Newman's lemma, the Church-Rosser property, the existence of normal forms where
-- reducibility is decided. Nothing here knows of terms. Assumes nothing.
-- Read first: proofs/Relations.
use mathlib.Core.Path.{◌≡◌, refl, subst}
use mathlib.Core.Logic.{◌⊎◌, inl, inr}
use mathlib.Core.WellFounded.{Acc}
use Rattle.rewriting.proofs.Relations.{Star, stop, move, Conv, same, ahead, back, Join, Normal, Below, Ends, LocallyConfluent, Confluent}

module _ {A : Type 0} {S : A → A → Type 0} where
  pub one : {a b : A} → S a b → Star S a b
  one s = move s stop

  pub append : {a b c : A} → Star S a b → Star S b c → Star S a c
  append stop t = t
  append (move x s) t = move x (append s t)

  pub chain : {a b c : A} → Conv S a b → Conv S b c → Conv S a c
  chain same t = t
  chain (ahead x s) t = ahead x (chain s t)
  chain (back x s) t = back x (chain s t)

  pub turn : {a b : A} → Conv S a b → Conv S b a
  turn same = same
  turn (ahead x s) = chain (turn s) (back x same)
  turn (back x s) = chain (turn s) (ahead x same)

  pub star_conv : {a b : A} → Star S a b → Conv S a b
  star_conv stop = same
  star_conv (move x s) = ahead x (star_conv s)

  pub join_conv : {a b : A} → Join S a b → Conv S a b
  join_conv j = chain (star_conv j.left) (turn (star_conv j.right))

  pub join_swap : {a b : A} → Join S a b → Join S b a
  join_swap j = record { at = j.at; left = j.right; right = j.left }

  pub join_refl : {a : A} → Join S a a
  join_refl {a} = record { at = a; left = stop; right = stop }

  pub star_eq : {a b : A} → a ≡ b → Star S a b
  star_eq {a} e = subst (λ x. Star S a x) e stop

  -- A normal term reaches only itself.
  pub normal_stays : {a b : A} → Normal S a → Star S a b → a ≡ b
  normal_stays n stop = refl
  normal_stays n (move x s) = absurd (n _ x)

  -- (a) Newman's lemma, at one accessible term and then for all.
  newman_peak : {a b c : A} → ((y : A) → S a y → (d e : A) → Star S y d → Star S y e → Join S d e) → LocallyConfluent S → Star S a b → Star S a c → Join S b c
  newman_peak ih lc stop t = record { at = _; left = t; right = stop }
  newman_peak ih lc (move x s) stop = record { at = _; left = stop; right = move x s }
  newman_peak ih lc (move x s) (move y t) =
      let j = lc _ _ _ x y in
      let k = ih _ x _ _ s j.left in
      let m = ih _ y _ _ t (append j.right k.right) in
      record { at = m.at; left = append k.left m.right; right = m.left }

  pub newman_at : {a : A} → LocallyConfluent S → Acc (Below S) a → (b c : A) → Star S a b → Star S a c → Join S b c
  newman_at lc (Acc.intro a h) b c = newman_peak (λ y x. newman_at lc (h y x)) lc

  pub newman : Ends S → LocallyConfluent S → Confluent S
  newman ends lc a b c = newman_at lc (ends a) b c

  -- Confluence is the Church-Rosser property: convertible terms have a common reduct.
  pub church_rosser : Confluent S → {a b : A} → Conv S a b → Join S a b
  church_rosser cf same = join_refl
  church_rosser cf (ahead x s) =
      let j = church_rosser cf s in
      record { at = j.at; left = move x j.left; right = j.right }
  church_rosser cf (back x s) =
      let j = church_rosser cf s in
      let k = cf _ _ _ (one x) j.left in
      record { at = k.at; left = k.left; right = append j.right k.right }

  -- A term has at most one normal form.
  pub normal_unique : Confluent S → {a b c : A} → Star S a b → Normal S b → Star S a c → Normal S c → b ≡ c
  normal_unique cf s n t m =
      let j = cf _ _ _ s t in
      let e : _ ≡ j.at = normal_stays n j.left in
      let f : _ ≡ j.at = normal_stays m j.right in
      cc

-- What steps are mapped to steps, some steps are mapped to some steps.
module _ {A B : Type 0} {S : A → A → Type 0} {T : B → B → Type 0} (f : A → B) (each : (a b : A) → S a b → T (f a) (f b)) where
  pub star_map : {a b : A} → Star S a b → Star T (f a) (f b)
  star_map stop = stop
  star_map (move x s) = move (each _ _ x) (star_map s)

  pub conv_map : {a b : A} → Conv S a b → Conv T (f a) (f b)
  conv_map same = same
  conv_map (ahead x s) = ahead (each _ _ x) (conv_map s)
  conv_map (back x s) = back (each _ _ x) (conv_map s)

  pub join_map : {a b : A} → Join S a b → Join T (f a) (f b)
  join_map j = record { at = f j.at; left = star_map j.left; right = star_map j.right }

-- (d) A normal form of `a`: where rewriting ended.
pub record Last {A : Type 0} (S : A → A → Type 0) (a : A) : Type 0 where
  pub term : A
  pub reached : Star S a term
  pub normal : Normal S term

-- At each term it is decided whether a step leaves it, and one is given.
abbrev pub Reducible? : {A : Type 0} (S : A → A → Type 0) → Type 0
Reducible? {A} S = (a : A) → ((b : A) × S a b) ⊎ Normal S a

module _ {A : Type 0} {S : A → A → Type 0} where
  last_go : {a : A} → ((b : A) → S a b → Last S b) → ((b : A) × S a b) ⊎ Normal S a → Last S a
  last_go ih (inl p) =
      let l = ih p.0 p.1 in
      record { term = l.term; reached = move p.1 l.reached; normal = l.normal }
  last_go {a} ih (inr n) = record { term = a; reached = stop; normal = n }

  pub last_at : Reducible? S → {a : A} → Acc (Below S) a → Last S a
  last_at red (Acc.intro a h) = last_go (λ b x. last_at red (h b x)) (red a)

  pub last : Ends S → Reducible? S → (a : A) → Last S a
  last ends red a = last_at red (ends a)
