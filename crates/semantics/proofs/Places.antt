-- The rule at a place: it is made of the rules at its operands, and stays as the book grows.
use Rattle.std.proofs.Common.{◌≡◌, ℕ, zero, suc, ◌<◌, true, ltb, ◌↔◌, List, [], ◌++◌, length, get_or, sym, refl, ap, ◌∙◌, subst, ap₂, append-nil, arith}
use Rattle.std.proofs.lemmas.List.{get_or_append_left}
use Rattle.std.proofs.lemmas.Bool.{ltb-true, and_parts}
use Rattle.rules.specs.Tables.{fits_at, Ordered}
use Rattle.rules.specs.declared.node.Node.{Node}
use Rattle.rules.specs.declared.node.Node.TheVariants.{True, False, Signal, Unary, Binary}
use Rattle.semantics.specs.Rules.{Rule, One, Two, built, rule_within, rule_at, Stands, SameRule, trues, falses, signals, unaries, binaries}

built_same : (f g : ℕ → Rule) (n : Node) (k : ℕ) → fits_at n k ≡ true → ((a : ℕ) → a < k → f a ≡ g a) → built f n ≡ built g n
built_same f g True k h s = refl
built_same f g False k h s = refl
built_same f g (Signal x) k h s = refl
built_same f g (Unary op a) k h s = ap (One op) (s a.index (ltb-true _ _ h))
built_same f g (Binary op a b) k h s =
    let p = and_parts (ltb a.index k) (ltb b.index k) h in
    ap₂ (Two op) (s a.index (ltb-true _ _ p.0)) (s b.index (ltb-true _ _ p.1))

-- enough operands on end are enough, also in a longer book
within : (B U : List Node) → Ordered B → (n m k : ℕ) → k < n → k < m → k < length B → rule_within n (B ++ U) k ≡ rule_within m B k
unfolding rule_within
within B U o zero m k h l q = absurd (omega arith)
within B U o (suc n) zero k h l q = absurd (omega arith)
within B U o (suc n) (suc m) k h l q =
    ap (built (rule_within n (B ++ U))) (get_or_append_left B U True k q)
    ∙ built_same (rule_within n (B ++ U)) (rule_within m B) (get_or B k True) k (o k q) (λ a z. within B U o n m a (omega arith) (omega arith) (omega arith))

-- the rule at a place stays as the book grows
pub rule_stays : (B U : List Node) → Ordered B → (k : ℕ) → k < length B → rule_at (B ++ U) k ≡ rule_at B k
rule_stays B U o k h = within B U o (suc k) (suc k) k (omega arith) (omega arith) h

-- the rule at a place, from the rules at its operands
pub rule_opens : (B : List Node) → Ordered B → (k : ℕ) (n : Node) → Stands B k n → rule_at B k ≡ built (rule_at B) n
unfolding rule_within
rule_opens B o k n h =
    subst (λ n. rule_at B k ≡ built (rule_at B) n) h.1
    (built_same (rule_within k B) (rule_at B) (get_or B k True) k (o k h.0)
    (λ a z. sym (ap (λ X. rule_within k X a) (append-nil B)) ∙ within B [] o k (suc a) a z (omega arith) (omega (arith, h.0))))

-- ---- the same rule, by places and as a tree
pub same_tree : (B B' : List Node) → Ordered B → Ordered B' → {k k' : ℕ} → SameRule B B' k k' → rule_at B k ≡ rule_at B' k'
same_tree B B' o o' {k} {k'} (trues h h') = rule_opens B o k True h ∙ sym (rule_opens B' o' k' True h')
same_tree B B' o o' {k} {k'} (falses h h') = rule_opens B o k False h ∙ sym (rule_opens B' o' k' False h')
same_tree B B' o o' {k} {k'} (signals {s = s} h h') = rule_opens B o k (Signal s) h ∙ sym (rule_opens B' o' k' (Signal s) h')
same_tree B B' o o' {k} {k'} (unaries {a = a} {a' = a'} {op = op} h h' x) =
    rule_opens B o k (Unary op a) h ∙ ap (One op) (same_tree B B' o o' x) ∙ sym (rule_opens B' o' k' (Unary op a') h')
same_tree B B' o o' {k} {k'} (binaries {a = a} {a' = a'} {b = b} {b' = b'} {op = op} h h' x y) =
    rule_opens B o k (Binary op a b) h ∙ ap₂ (Two op) (same_tree B B' o o' x) (same_tree B B' o o' y) ∙ sym (rule_opens B' o' k' (Binary op a' b') h')

module _ (B B' : List Node) (o : Ordered B) (o' : Ordered B') where
  -- the operands of the nodes at k and k' hold the same rules where their trees are equal
  abbrev LowerSame : ℕ → Type 0
  LowerSame k = (a a' : ℕ) → a < k → a' < length B' → rule_at B a ≡ rule_at B' a' → SameRule B B' a a'

  by_nodes : (k k' : ℕ) → LowerSame k → (n n' : Node) → Stands B k n → Stands B' k' n' → fits_at n k ≡ true → fits_at n' k' ≡ true → built (rule_at B) n ≡ built (rule_at B') n' → SameRule B B' k k'
  by_nodes k k' r True True h h' f f' z = trues h h'
  by_nodes k k' r True False h h' f f' z = absurd cc
  by_nodes k k' r True (Signal s') h h' f f' z = absurd cc
  by_nodes k k' r True (Unary op' a') h h' f f' z = absurd cc
  by_nodes k k' r True (Binary op' a' b') h h' f f' z = absurd cc
  by_nodes k k' r False True h h' f f' z = absurd cc
  by_nodes k k' r False False h h' f f' z = falses h h'
  by_nodes k k' r False (Signal s') h h' f f' z = absurd cc
  by_nodes k k' r False (Unary op' a') h h' f f' z = absurd cc
  by_nodes k k' r False (Binary op' a' b') h h' f f' z = absurd cc
  by_nodes k k' r (Signal s) True h h' f f' z = absurd cc
  by_nodes k k' r (Signal s) False h h' f f' z = absurd cc
  by_nodes k k' r (Signal s) (Signal s') h h' f f' z = let q : s' ≡ s = cc in signals h (h'.0, h'.1 ∙ ap Signal q)
  by_nodes k k' r (Signal s) (Unary op' a') h h' f f' z = absurd cc
  by_nodes k k' r (Signal s) (Binary op' a' b') h h' f f' z = absurd cc
  by_nodes k k' r (Unary op a) True h h' f f' z = absurd cc
  by_nodes k k' r (Unary op a) False h h' f f' z = absurd cc
  by_nodes k k' r (Unary op a) (Signal s') h h' f f' z = absurd cc
  by_nodes k k' r (Unary op a) (Unary op' a') h h' f f' z =
      let q : op' ≡ op = cc in
      let u : rule_at B a.index ≡ rule_at B' a'.index = cc in
      unaries h (h'.0, h'.1 ∙ ap (λ x. Unary x a') q) (r a.index a'.index (ltb-true _ _ f) (omega (arith, ltb-true _ _ f', h'.0)) u)
  by_nodes k k' r (Unary op a) (Binary op' a' b') h h' f f' z = absurd cc
  by_nodes k k' r (Binary op a b) True h h' f f' z = absurd cc
  by_nodes k k' r (Binary op a b) False h h' f f' z = absurd cc
  by_nodes k k' r (Binary op a b) (Signal s') h h' f f' z = absurd cc
  by_nodes k k' r (Binary op a b) (Unary op' a') h h' f f' z = absurd cc
  by_nodes k k' r (Binary op a b) (Binary op' a' b') h h' f f' z =
      let q : op' ≡ op = cc in
      let u : rule_at B a.index ≡ rule_at B' a'.index = cc in
      let v : rule_at B b.index ≡ rule_at B' b'.index = cc in
      let p = and_parts (ltb a.index k) (ltb b.index k) f in
      let p' = and_parts (ltb a'.index k') (ltb b'.index k') f' in
      binaries h (h'.0, h'.1 ∙ ap (λ x. Binary x a' b') q)
      (r a.index a'.index (ltb-true _ _ p.0) (omega (arith, ltb-true _ _ p'.0, h'.0)) u)
      (r b.index b'.index (ltb-true _ _ p.1) (omega (arith, ltb-true _ _ p'.1, h'.0)) v)

  same_places : (m k k' : ℕ) → k < m → k < length B → k' < length B' → rule_at B k ≡ rule_at B' k' → SameRule B B' k k'
  same_places zero k k' h l l' e = absurd (omega arith)
  same_places (suc m) k k' h l l' e =
      by_nodes k k' (λ a a' q q' z. same_places m a a' (omega arith) (omega arith) q' z) (get_or B k True) (get_or B' k' True) (l, refl) (l', refl) (o k l) (o' k' l')
      (sym (rule_opens B o k (get_or B k True) (l, refl)) ∙ e ∙ rule_opens B' o' k' (get_or B' k' True) (l', refl))

-- two places hold the same rule exactly when their trees are equal
pub same_rule : (B B' : List Node) → Ordered B → Ordered B' → (k k' : ℕ) → k < length B → k' < length B' → SameRule B B' k k' ↔ (rule_at B k ≡ rule_at B' k')
same_rule B B' o o' k k' h h' = (same_tree B B' o o', same_places B B' o o' (suc k) k k' (omega arith) h h')
