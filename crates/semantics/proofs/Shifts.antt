-- What is true at a position depends only on what follows it.
use Rattle.std.proofs.Common.{◌≡◌, ℕ, suc, ◌+◌, ◌-◌, ◌⊎◌, ◌↔◌, sym, ap, ◌∙◌, subst, inl, inr, add-zero, add_assoc, arith}
use Rattle.rules.specs.declared.node.BinaryOp.{BinaryOp}
use Rattle.rules.specs.declared.node.BinaryOp.TheVariants.{And, Or, Implies, Equivalent, ExclusiveOr, Until, Release, WeakUntil, StrongRelease}
use Rattle.rules.specs.declared.node.UnaryOp.{UnaryOp}
use Rattle.rules.specs.declared.node.UnaryOp.TheVariants.{Not, Next, Eventually, Always}
use Rattle.semantics.specs.Meaning.{bit, UntilAt, WeakUntilAt, EventuallyAt, AlwaysAt, UnaryAt, BinaryAt, Holds}
use Rattle.semantics.specs.Rules.{Rule, Top, Bottom, Atom, One, Two}

-- A from i on is A' from j on
abbrev pub Shift : (ℕ → Type 0) → ℕ → (ℕ → Type 0) → ℕ → Type 0
Shift A i A' j = (k : ℕ) → A (i + k) ↔ A' (j + k)

pub shift_here : (A A' : ℕ → Type 0) (i j : ℕ) → Shift A i A' j → A i ↔ A' j
shift_here A A' i j s = subst (λ x. A x ↔ A' j) (add-zero i) (subst (λ y. A (i + 0) ↔ A' y) (add-zero j) (s 0))

pub shift_back : (A A' : ℕ → Type 0) (i j : ℕ) → Shift A i A' j → Shift A' j A i
shift_back A A' i j s k = ((s k).1, (s k).0)

pub shift_not : (A A' : ℕ → Type 0) (i j : ℕ) → Shift A i A' j → Shift (λ k. ¬ A k) i (λ k. ¬ A' k) j
shift_not A A' i j s k = (λ f a. f ((s k).1 a), λ f a. f ((s k).0 a))

module _ (A B A' B' : ℕ → Type 0) where
  until_go : (i j : ℕ) → Shift A i A' j → Shift B i B' j → UntilAt A B i → UntilAt A' B' j
  until_go i j s t u =
      let d : u.0 ≡ i + (u.0 - i) = omega (arith, u.1) in (
        j + (u.0 - i),
        omega arith,
        (t (u.0 - i)).0 (subst B d u.2),
        λ k h l.
            let e : j + (k - j) ≡ k = omega arith in
            subst A' e ((s (k - j)).0 (u.3 (i + (k - j)) (omega arith) (omega arith))),
      )

pub until_shift : (A B A' B' : ℕ → Type 0) (i j : ℕ) → Shift A i A' j → Shift B i B' j → UntilAt A B i ↔ UntilAt A' B' j
until_shift A B A' B' i j s t = (until_go A B A' B' i j s t, until_go A' B' A B j i (shift_back A A' i j s) (shift_back B B' i j t))

pub not_iff : {A B : Type 0} → A ↔ B → (¬ A) ↔ (¬ B)
not_iff e = (λ f b. f (e.1 b), λ f a. f (e.0 a))

or_iff : {A B C D : Type 0} → A ↔ C → B ↔ D → (A ⊎ B) ↔ (C ⊎ D)
or_iff e f = (elim [ inl a ↦ inl (e.0 a) | inr b ↦ inr (f.0 b) ], elim [ inl c ↦ inl (e.1 c) | inr d ↦ inr (f.1 d) ])

and_iff : {A B C D : Type 0} → A ↔ C → B ↔ D → (A × B) ↔ (C × D)
and_iff e f = (λ x. (e.0 x.0, f.0 x.1), λ x. (e.1 x.0, f.1 x.1))

pub eventually_shift : (A A' : ℕ → Type 0) (i j : ℕ) → Shift A i A' j → EventuallyAt A i ↔ EventuallyAt A' j
eventually_shift A A' i j s = until_shift (λ _. Unit {0}) A (λ _. Unit {0}) A' i j (λ k. (λ x. x, λ x. x)) s

pub always_shift : (A A' : ℕ → Type 0) (i j : ℕ) → Shift A i A' j → AlwaysAt A i ↔ AlwaysAt A' j
always_shift A A' i j s = not_iff (eventually_shift (λ k. ¬ A k) (λ k. ¬ A' k) i j (shift_not A A' i j s))

pub weak_shift : (A B A' B' : ℕ → Type 0) (i j : ℕ) → Shift A i A' j → Shift B i B' j → WeakUntilAt A B i ↔ WeakUntilAt A' B' j
weak_shift A B A' B' i j s t = or_iff (until_shift A B A' B' i j s t) (always_shift A A' i j s)

next_shift : (A A' : ℕ → Type 0) (i j : ℕ) → Shift A i A' j → A (suc i) ↔ A' (suc j)
next_shift A A' i j s =
    let e : i + 1 ≡ suc i = omega arith in
    let f : j + 1 ≡ suc j = omega arith in
    subst (λ x. A x ↔ A' (suc j)) e (subst (λ y. A (i + 1) ↔ A' y) f (s 1))

unary_shift : (op : UnaryOp) (A A' : ℕ → Type 0) (i j : ℕ) → Shift A i A' j → UnaryAt op A i ↔ UnaryAt op A' j
unary_shift Not A A' i j s = not_iff (shift_here A A' i j s)
unary_shift Next A A' i j s = next_shift A A' i j s
unary_shift Eventually A A' i j s = eventually_shift A A' i j s
unary_shift Always A A' i j s = always_shift A A' i j s

binary_shift : (op : BinaryOp) (A B A' B' : ℕ → Type 0) (i j : ℕ) → Shift A i A' j → Shift B i B' j → BinaryAt op A B i ↔ BinaryAt op A' B' j
binary_shift And A B A' B' i j s t = not_iff (or_iff (not_iff (shift_here A A' i j s)) (not_iff (shift_here B B' i j t)))
binary_shift Or A B A' B' i j s t = or_iff (shift_here A A' i j s) (shift_here B B' i j t)
binary_shift Implies A B A' B' i j s t = or_iff (not_iff (shift_here A A' i j s)) (shift_here B B' i j t)
binary_shift Equivalent A B A' B' i j s t =
    let a = shift_here A A' i j s in
    let b = shift_here B B' i j t in
    or_iff (and_iff a b) (and_iff (not_iff a) (not_iff b))
binary_shift ExclusiveOr A B A' B' i j s t =
    let a = shift_here A A' i j s in
    let b = shift_here B B' i j t in
    or_iff (and_iff a (not_iff b)) (and_iff (not_iff a) b)
binary_shift Until A B A' B' i j s t = until_shift A B A' B' i j s t
binary_shift Release A B A' B' i j s t =
    not_iff (until_shift (λ k. ¬ A k) (λ k. ¬ B k) (λ k. ¬ A' k) (λ k. ¬ B' k) i j (shift_not A A' i j s) (shift_not B B' i j t))
binary_shift WeakUntil A B A' B' i j s t = weak_shift A B A' B' i j s t
binary_shift StrongRelease A B A' B' i j s t =
    not_iff (weak_shift (λ k. ¬ A k) (λ k. ¬ B k) (λ k. ¬ A' k) (λ k. ¬ B' k) i j (shift_not A A' i j s) (shift_not B B' i j t))

-- two sequences agree from i and from j on
abbrev pub Agree : (ℕ → ℕ) → ℕ → (ℕ → ℕ) → ℕ → Type 0
Agree word i word' j = (k : ℕ) → word (i + k) ≡ word' (j + k)

agree_on : (word word' : ℕ → ℕ) (i j n : ℕ) → Agree word i word' j → Agree word (i + n) word' (j + n)
agree_on word word' i j n g k = ap word (add_assoc i n k) ∙ g (n + k) ∙ ap word' (sym (add_assoc j n k))

-- a rule holds at i of the one exactly where it holds at j of the other
pub holds_shift : (r : Rule) (word word' : ℕ → ℕ) (i j : ℕ) → Agree word i word' j → Holds r word i ↔ Holds r word' j
holds_shift Top word word' i j g = (λ x. x, λ x. x)
holds_shift Bottom word word' i j g = (λ x. x, λ x. x)
holds_shift (Atom s) word word' i j g =
    let e : word i ≡ word' j = ap word (sym (add-zero i)) ∙ g 0 ∙ ap word' (add-zero j) in
    (λ h. ap (λ w. bit w s) (sym e) ∙ h, λ h. ap (λ w. bit w s) e ∙ h)
holds_shift (One op a) word word' i j g = unary_shift op (Holds a word) (Holds a word') i j (λ k. holds_shift a word word' (i + k) (j + k) (agree_on word word' i j k g))
holds_shift (Two op a b) word word' i j g =
    binary_shift op (Holds a word) (Holds b word) (Holds a word') (Holds b word') i j
    (λ k. holds_shift a word word' (i + k) (j + k) (agree_on word word' i j k g))
    (λ k. holds_shift b word word' (i + k) (j + k) (agree_on word word' i j k g))
