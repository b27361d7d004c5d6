-- On every lasso the core form of a rule holds exactly where the rule does, and that of its denial exactly where it
-- does not.
use Rattle.std.proofs.Common.{◌≡◌, ℕ, zero, suc, ◌+◌, ◌-◌, ◌<◌, ◌≤◌, true, false, ◌⊎◌, ◌↔◌, length, get_or, sym, ap, ◌∙◌, subst, inl, inr, arith}
use Rattle.std.proofs.Math.Decide.{dec_le, dec_lt, ℕ_discrete}
use Rattle.rules.specs.declared.node.BinaryOp.{BinaryOp}
use Rattle.rules.specs.declared.node.BinaryOp.TheVariants.{And, Or, Implies, Equivalent, ExclusiveOr, Until, Release, WeakUntil, StrongRelease}
use Rattle.rules.specs.declared.node.UnaryOp.{UnaryOp}
use Rattle.rules.specs.declared.node.UnaryOp.TheVariants.{Not, Next, Eventually, Always}
use Rattle.semantics.specs.Lassos.{Lasso, unrolled}
use Rattle.semantics.specs.Meaning.{bit, UntilAt, WeakUntilAt, Holds}
use Rattle.semantics.specs.Rules.{Rule, Top, Bottom, Atom, One, Two}
use Rattle.std.proofs.lemmas.Nat.Bits.{bit_at-lt}
use Rattle.semantics.proofs.Loops.{wrapped_again}
use Rattle.automata.specs.Cores.{core_of, ReleasesAt, Satisfied}

-- ---- decidable facts
-- some position from i up to m, or none
below : (P : ℕ → Type 0) → ((k : ℕ) → Dec (P k)) → (i m : ℕ) → ((k : ℕ) × (i ≤ k) × (k < m) × P k) ⊎ ((k : ℕ) → i ≤ k → k < m → ¬ P k)
below P d i zero = inr (λ k h l _. omega arith)
below P d i (suc m) = go (below P d i m) (dec_le i m) (d m)
  where
    go : ((k : ℕ) × (i ≤ k) × (k < m) × P k) ⊎ ((k : ℕ) → i ≤ k → k < m → ¬ P k) → Dec (i ≤ m) → Dec (P m)
        → ((k : ℕ) × (i ≤ k) × (k < suc m) × P k) ⊎ ((k : ℕ) → i ≤ k → k < suc m → ¬ P k)
    go (inl (k, a, b, c)) e f = inl (k, a, omega arith, c)
    go (inr n) (yes e) (yes f) = inl (m, e, omega arith, f)
    go (inr n) (no e) f = inr (λ k h l q. absurd (e (omega arith)))
    go (inr n) (yes e) (no f) = inr (λ k h l q. elim (ℕ_discrete k m) [ yes z ↦ f (subst P z q) | no z ↦ n k h (omega arith) q ])

dec_not : {A : Type 0} → Dec A → Dec (¬ A)
dec_not (yes a) = no (λ f. f a)
dec_not (no f) = yes f

dec_or : {A B : Type 0} → Dec A → Dec B → Dec (A ⊎ B)
dec_or (yes a) e = yes (inl a)
dec_or (no f) (yes b) = yes (inr b)
dec_or (no f) (no g) = no (elim [ inl a ↦ f a | inr b ↦ g b ])

dec_and : {A B : Type 0} → Dec A → Dec B → Dec (A × B)
dec_and (yes a) (yes b) = yes (a, b)
dec_and (no f) e = no (λ x. f x.0)
dec_and (yes a) (no g) = no (λ x. g x.1)

stable : {A : Type 0} → Dec A → ¬ (¬ A) → A
stable (yes a) f = a
stable (no n) f = absurd (f n)

all_from : (A : ℕ → Type 0) → ((k : ℕ) → Dec (A k)) → (i j : ℕ) → Dec ((k : ℕ) → i ≤ k → k < j → A k)
all_from A d i j = go (below (λ k. ¬ A k) (λ k. dec_not (d k)) i j)
  where
    go : ((k : ℕ) × (i ≤ k) × (k < j) × ¬ A k) ⊎ ((k : ℕ) → i ≤ k → k < j → ¬ (¬ A k)) → Dec ((k : ℕ) → i ≤ k → k < j → A k)
    go (inl (k, h, l, f)) = no (λ g. f (g k h l))
    go (inr n) = yes (λ k h l. stable (d k) (n k h l))

-- ---- until and release
until_map : {A B A' B' : ℕ → Type 0} → ((k : ℕ) → A k → A' k) → ((k : ℕ) → B k → B' k) → (i : ℕ) → UntilAt A B i → UntilAt A' B' i
until_map f g i u = (u.0, u.1, g u.0 u.2, λ k h l. f k (u.3 k h l))

releases_map : {A B A' B' : ℕ → Type 0} → ((k : ℕ) → A k → A' k) → ((k : ℕ) → B k → B' k) → (i : ℕ) → ReleasesAt A B i → ReleasesAt A' B' i
releases_map f g i r j h = elim (r j h) [ inl b ↦ inl (g j b) | inr t ↦ inr (t.0, t.1, t.2, f t.0 t.3) ]

-- no until is a release of the denials
not_until : (A B : ℕ → Type 0) → ((k : ℕ) → Dec (A k)) → ((k : ℕ) → Dec (B k)) → (i : ℕ) → ¬ UntilAt A B i → ReleasesAt (λ k. ¬ A k) (λ k. ¬ B k) i
not_until A B d e i n j h = go (e j) (below (λ k. ¬ A k) (λ k. dec_not (d k)) i j)
  where
    go : Dec (B j) → ((k : ℕ) × (i ≤ k) × (k < j) × ¬ A k) ⊎ ((k : ℕ) → i ≤ k → k < j → ¬ (¬ A k)) → ¬ B j ⊎ ((k : ℕ) × (i ≤ k) × (k < j) × ¬ A k)
    go (no q) t = inl q
    go (yes b) (inl t) = inr t
    go (yes b) (inr t) = absurd (n (j, h, b, λ k x y. stable (d k) (t k x y)))

releases_not : (A B : ℕ → Type 0) (i : ℕ) → ReleasesAt (λ k. ¬ A k) (λ k. ¬ B k) i → ¬ UntilAt A B i
releases_not A B i r u = elim (r u.0 u.1) [ inl q ↦ q u.2 | inr t ↦ t.3 (u.3 t.0 t.1 t.2) ]

-- a weak until is a release
weak_releases : (A B : ℕ → Type 0) → ((k : ℕ) → Dec (A k)) → (i : ℕ) → WeakUntilAt A B i → ReleasesAt B (λ k. A k ⊎ B k) i
weak_releases A B d i (inr n) j h = inl (inl (stable (d j) (λ q. n (j, h, q, λ k x y. tt))))
weak_releases A B d i (inl u) j h = go (dec_lt j u.0) (ℕ_discrete u.0 j)
  where
    go : Dec (j < u.0) → Dec (u.0 ≡ j) → (A j ⊎ B j) ⊎ ((k : ℕ) × (i ≤ k) × (k < j) × B k)
    go (yes l) q = inl (inl (u.3 j h l))
    go (no l) (yes q) = inl (inr (subst B q u.2))
    go (no l) (no q) = inr (u.0, u.1, omega arith, u.2)

releases_weak : (A B : ℕ → Type 0) → ((k : ℕ) → Dec (B k)) → (i : ℕ) → Dec (UntilAt A B i) → ReleasesAt B (λ k. A k ⊎ B k) i → WeakUntilAt A B i
releases_weak A B e i (yes u) r = inl u
releases_weak A B e i (no n) r = inr (λ f. f.2 (so_far (suc f.0) f.0 f.1 (omega arith)).0)
  where
    so_far : (m k : ℕ) → i ≤ k → k < m → A k × ¬ B k
    so_far zero k h l = absurd (omega arith)
    so_far (suc m) k h l =
        let z : ¬ B k = λ b. n (k, h, b, λ q x y. (so_far m q x (omega arith)).0) in
        (elim (r k h) [ inl t ↦ elim t [ inl a ↦ a | inr b ↦ absurd (z b) ] | inr t ↦ absurd ((so_far m t.0 t.1 (omega (arith, t.2))).1 t.3) ], z)

-- ---- over a sequence that repeats from s on, p further
module _ (s p : ℕ) (pos : 0 < p) where
  -- decided, and the same p further on
  record Good (A : ℕ → Type 0) : Type 0 where
    dec : (i : ℕ) → Dec (A i)
    up : (i : ℕ) → s ≤ i → A i → A (i + p)
    down : (i : ℕ) → s ≤ i → A (i + p) → A i

  good_const : {A : Type 0} → Dec A → Good (λ _. A)
  good_const d = record { dec = λ i. d; up = λ i h a. a; down = λ i h a. a }

  good_not : {A : ℕ → Type 0} → Good A → Good (λ i. ¬ A i)
  good_not g = record { dec = λ i. dec_not (g.dec i); up = λ i h n a. n (g.down i h a); down = λ i h n a. n (g.up i h a) }

  good_or : {A B : ℕ → Type 0} → Good A → Good B → Good (λ i. A i ⊎ B i)
  good_or g e = record {
    dec = λ i. dec_or (g.dec i) (e.dec i);
    up = λ i h. elim [ inl a ↦ inl (g.up i h a) | inr b ↦ inr (e.up i h b) ];
    down = λ i h. elim [ inl a ↦ inl (g.down i h a) | inr b ↦ inr (e.down i h b) ];
  }

  good_and : {A B : ℕ → Type 0} → Good A → Good B → Good (λ i. A i × B i)
  good_and g e = record {
    dec = λ i. dec_and (g.dec i) (e.dec i);
    up = λ i h x. (g.up i h x.0, e.up i h x.1);
    down = λ i h x. (g.down i h x.0, e.down i h x.1);
  }

  good_next : {A : ℕ → Type 0} → Good A → Good (λ i. A (suc i))
  good_next {A} g = record {
    dec = λ i. g.dec (suc i);
    up = λ i h a. subst A (omega arith) (g.up (suc i) (omega arith) a);
    down = λ i h a. g.down (suc i) (omega arith) (subst A (omega arith) a);
  }

  earlier : {A : ℕ → Type 0} → Good A → (k : ℕ) → s + p ≤ k → A k → A (k - p)
  earlier {A} g k h a = g.down (k - p) (omega arith) (subst A (omega arith) a)

  later : {A : ℕ → Type 0} → Good A → (k : ℕ) → s + p ≤ k → A (k - p) → A k
  later {A} g k h a = subst A (omega arith) (g.up (k - p) (omega arith) a)

  module _ (A B : ℕ → Type 0) (g : Good A) (e : Good B) where
    abbrev Reached : ℕ → ℕ → Type 0
    Reached i j = B j × ((k : ℕ) → i ≤ k → k < j → A k)

    -- what is reached at all is reached soon
    soon : (i f j : ℕ) → j ≤ f → i ≤ j → Reached i j → (j : ℕ) × (i ≤ j) × (j < i + s + p) × Reached i j
    soon i zero j l h r = (j, h, omega arith, r)
    soon i (suc f) j l h r = elim (dec_lt j (i + s + p)) [
      | yes q ↦ (j, h, q, r)
      | no q ↦ soon i f (j - p) (omega arith) (omega arith) (earlier e j (omega arith) r.0, λ k x y. r.1 k x (omega arith))
    ]

    dec_until : (i : ℕ) → Dec (UntilAt A B i)
    dec_until i = go (below (Reached i) (λ j. dec_and (e.dec j) (all_from A g.dec i j)) i (i + s + p))
      where
        go : ((j : ℕ) × (i ≤ j) × (j < i + s + p) × Reached i j) ⊎ ((j : ℕ) → i ≤ j → j < i + s + p → ¬ Reached i j) → Dec (UntilAt A B i)
        go (inl (j, h, l, r)) = yes (j, h, r.0, r.1)
        go (inr n) = no (λ u. let t = soon i u.0 u.0 (omega arith) u.1 (u.2, u.3) in n t.0 t.1 t.2 t.3)

    good_until : Good (UntilAt A B)
    good_until = record {
      dec = dec_until;
      up = λ i h u. (u.0 + p, omega (arith, u.1), e.up u.0 (omega (arith, u.1)) u.2, λ k x y. later g k (omega arith) (u.3 (k - p) (omega arith) (omega arith)));
      down = λ i h u. (u.0 - p, omega (arith, u.1), earlier e u.0 (omega (arith, u.1)) u.2, λ k x y. g.down k (omega arith) (u.3 (k + p) (omega arith) (omega arith)));
    }

  -- a predicate H in both polarities: P says it, and N denies it
  record Known (H P N : ℕ → Type 0) : Type 0 where
    good : Good H
    to : (i : ℕ) → H i → P i
    from : (i : ℕ) → P i → H i
    nto : (i : ℕ) → ¬ H i → N i
    nfrom : (i : ℕ) → N i → ¬ H i

  known_true : Known (λ _. Unit {0}) (λ _. Unit {0}) (λ _. ⊥)
  known_true = record { good = good_const (yes tt); to = λ i x. x; from = λ i x. x; nto = λ i f. f tt; nfrom = λ i x _. x }

  known_false : Known (λ _. ⊥) (λ _. ⊥) (λ _. Unit {0})
  known_false = record { good = good_const (no (λ x. x)); to = λ i x. x; from = λ i x. x; nto = λ i f. tt; nfrom = λ i x y. y }

  known_not : {H P N : ℕ → Type 0} → Known H P N → Known (λ i. ¬ H i) N P
  known_not k = record { good = good_not k.good; to = k.nto; from = k.nfrom; nto = λ i f. k.to i (stable (k.good.dec i) f); nfrom = λ i x f. f (k.from i x) }

  known_next : {H P N : ℕ → Type 0} → Known H P N → Known (λ i. H (suc i)) (λ i. P (suc i)) (λ i. N (suc i))
  known_next k = record { good = good_next k.good; to = λ i. k.to (suc i); from = λ i. k.from (suc i); nto = λ i. k.nto (suc i); nfrom = λ i. k.nfrom (suc i) }

  known_or : {H P N K Q M : ℕ → Type 0} → Known H P N → Known K Q M → Known (λ i. H i ⊎ K i) (λ i. P i ⊎ Q i) (λ i. N i × M i)
  known_or h k = record {
    good = good_or h.good k.good;
    to = λ i. elim [ inl a ↦ inl (h.to i a) | inr b ↦ inr (k.to i b) ];
    from = λ i. elim [ inl a ↦ inl (h.from i a) | inr b ↦ inr (k.from i b) ];
    nto = λ i f. (h.nto i (λ a. f (inl a)), k.nto i (λ b. f (inr b)));
    nfrom = λ i x. elim [ inl a ↦ h.nfrom i x.0 a | inr b ↦ k.nfrom i x.1 b ];
  }

  -- and, as the denial of an or
  known_and : {H P N K Q M : ℕ → Type 0} → Known H P N → Known K Q M → Known (λ i. ¬ (¬ H i ⊎ ¬ K i)) (λ i. P i × Q i) (λ i. N i ⊎ M i)
  known_and h k = known_not (known_or (known_not h) (known_not k))

  -- both, or neither
  known_same : {H P N K Q M : ℕ → Type 0} → Known H P N → Known K Q M
      → Known (λ i. (H i × K i) ⊎ (¬ H i × ¬ K i)) (λ i. (P i × Q i) ⊎ (N i × M i)) (λ i. (P i × M i) ⊎ (N i × Q i))
  known_same h k = record {
    good = good_or (good_and h.good k.good) (good_and (good_not h.good) (good_not k.good));
    to = λ i. elim [ inl x ↦ inl (h.to i x.0, k.to i x.1) | inr x ↦ inr (h.nto i x.0, k.nto i x.1) ];
    from = λ i. elim [ inl x ↦ inl (h.from i x.0, k.from i x.1) | inr x ↦ inr (h.nfrom i x.0, k.nfrom i x.1) ];
    nto = λ i f. elim (h.good.dec i) [
      | yes a ↦ inl (h.to i a, k.nto i (λ b. f (inl (a, b))))
      | no a ↦ inr (h.nto i a, k.to i (stable (k.good.dec i) (λ b. f (inr (a, b)))))
    ];
    nfrom = λ i. elim [
      | inl x ↦ elim [ inl y ↦ k.nfrom i x.1 y.1 | inr y ↦ y.0 (h.from i x.0) ]
      | inr x ↦ elim [ inl y ↦ h.nfrom i x.0 y.0 | inr y ↦ y.1 (k.from i x.1) ]
    ];
  }

  -- one without the other
  known_other : {H P N K Q M : ℕ → Type 0} → Known H P N → Known K Q M
      → Known (λ i. (H i × ¬ K i) ⊎ (¬ H i × K i)) (λ i. (P i × M i) ⊎ (N i × Q i)) (λ i. (P i × Q i) ⊎ (N i × M i))
  known_other h k = record {
    good = good_or (good_and h.good (good_not k.good)) (good_and (good_not h.good) k.good);
    to = λ i. elim [ inl x ↦ inl (h.to i x.0, k.nto i x.1) | inr x ↦ inr (h.nto i x.0, k.to i x.1) ];
    from = λ i. elim [ inl x ↦ inl (h.from i x.0, k.nfrom i x.1) | inr x ↦ inr (h.nfrom i x.0, k.from i x.1) ];
    nto = λ i f. elim (h.good.dec i) [
      | yes a ↦ inl (h.to i a, k.to i (stable (k.good.dec i) (λ b. f (inl (a, b)))))
      | no a ↦ inr (h.nto i a, k.nto i (λ b. f (inr (a, b))))
    ];
    nfrom = λ i. elim [
      | inl x ↦ elim [ inl y ↦ y.1 (k.from i x.1) | inr y ↦ y.0 (h.from i x.0) ]
      | inr x ↦ elim [ inl y ↦ h.nfrom i x.0 y.0 | inr y ↦ k.nfrom i x.1 y.1 ]
    ];
  }

  known_until : {H P N K Q M : ℕ → Type 0} → Known H P N → Known K Q M → Known (UntilAt H K) (UntilAt P Q) (ReleasesAt N M)
  known_until {H} {P} {N} {K} {Q} {M} h k = record {
    good = good_until H K h.good k.good;
    to = until_map h.to k.to;
    from = until_map h.from k.from;
    nto = λ i f. releases_map h.nto k.nto i (not_until H K h.good.dec k.good.dec i f);
    nfrom = λ i r. releases_not H K i (releases_map h.nfrom k.nfrom i r);
  }

  known_weak : {H P N K Q M : ℕ → Type 0} → Known H P N → Known K Q M → Known (WeakUntilAt H K) (ReleasesAt Q (λ i. P i ⊎ Q i)) (UntilAt M (λ i. N i × M i))
  known_weak {H} {P} {N} {K} {Q} {M} h k =
      let o = known_or h k in
      let u = known_until (known_not k) (known_not o) in
      let d = (known_until h k).good in
      record {
        good = good_or d (known_not (known_until known_true (known_not h))).good;
        to = λ i x. releases_map k.to o.to i (weak_releases H K h.good.dec i x);
        from = λ i r. releases_weak H K k.good.dec i (d.dec i) (releases_map k.from o.from i r);
        nto = λ i f. u.to i (stable (u.good.dec i) (λ v. f (releases_weak H K k.good.dec i (d.dec i) (releases_map k.from o.from i (u.nto i v)))));
        nfrom = λ i v x. u.nfrom i (releases_map k.to o.to i (weak_releases H K h.good.dec i x)) (u.from i v);
      }

-- ---- the lasso of a recording
module _ (l : Lasso) (inside : l.start < length l.words) where
  abbrev word : ℕ → ℕ
  word = unrolled l

  abbrev period : ℕ
  period = length l.words - l.start

  period_pos : 0 < period
  period_pos = omega arith

  repeats : (i : ℕ) → l.start ≤ i → word (i + period) ≡ word i
  repeats i h = ap (λ x. get_or l.words x 0) (wrapped_again (length l.words) l.start inside i h)

  abbrev On : (ℕ → Type 0) → (ℕ → Type 0) → (ℕ → Type 0) → Type 0
  On = Known l.start period period_pos

  signal : (s : ℕ) → On (λ i. bit (word i) s ≡ 1) (λ i. bit (word i) s ≡ 1) (λ i. bit (word i) s ≡ 0)
  signal s = record {
    good = record {
      dec = λ i. ℕ_discrete (bit (word i) s) 1;
      up = λ i h e. ap (λ w. bit w s) (repeats i h) ∙ e;
      down = λ i h e. ap (λ w. bit w s) (sym (repeats i h)) ∙ e;
    };
    to = λ i x. x;
    from = λ i x. x;
    nto = λ i f. zero_bit (bit (word i) s) (bit_at-lt (word i) s) f;
    nfrom = λ i x y. omega arith;
  }
    where
      zero_bit : (b : ℕ) → b < 2 → ¬ (b ≡ 1) → b ≡ 0
      zero_bit b h f = omega arith

  abbrev Agrees : Rule → Type 0
  Agrees r = On (Holds r word) (Satisfied (core_of r true) word) (Satisfied (core_of r false) word)

  agrees_unary : (op : UnaryOp) (a : Rule) → Agrees a → Agrees (One op a)
  agrees_unary Not a k = known_not _ _ _ k
  agrees_unary Next a k = known_next _ _ _ k
  agrees_unary Eventually a k = known_until _ _ _ (known_true _ _ _) k
  agrees_unary Always a k = known_not _ _ _ (known_until _ _ _ (known_true _ _ _) (known_not _ _ _ k))

  agrees_binary : (op : BinaryOp) (a b : Rule) → Agrees a → Agrees b → Agrees (Two op a b)
  agrees_binary And a b k m = known_and _ _ _ k m
  agrees_binary Or a b k m = known_or _ _ _ k m
  agrees_binary Implies a b k m = known_or _ _ _ (known_not _ _ _ k) m
  agrees_binary Equivalent a b k m = known_same _ _ _ k m
  agrees_binary ExclusiveOr a b k m = known_other _ _ _ k m
  agrees_binary Until a b k m = known_until _ _ _ k m
  agrees_binary Release a b k m = known_not _ _ _ (known_until _ _ _ (known_not _ _ _ k) (known_not _ _ _ m))
  agrees_binary WeakUntil a b k m = known_weak _ _ _ k m
  agrees_binary StrongRelease a b k m = known_not _ _ _ (known_weak _ _ _ (known_not _ _ _ k) (known_not _ _ _ m))

  agrees : (r : Rule) → Agrees r
  agrees Top = known_true _ _ _
  agrees Bottom = known_false _ _ _
  agrees (Atom s) = signal s
  agrees (One op a) = agrees_unary op a (agrees a)
  agrees (Two op a b) = agrees_binary op a b (agrees a) (agrees b)

  pub core_right : (r : Rule) (i : ℕ) → Holds r word i ↔ Satisfied (core_of r true) word i
  core_right r i = ((agrees r).to i, (agrees r).from i)

  pub denial_right : (r : Rule) (i : ℕ) → (¬ Holds r word i) ↔ Satisfied (core_of r false) word i
  denial_right r i = ((agrees r).nto i, (agrees r).nfrom i)
