-- What is on a sheet, or on any longer one, is not written again: it keeps its number.
use Rattle.std.proofs.Common.{◌≡◌, ℕ, suc, ◌<◌, ◌≤◌, Bool, true, false, cond, List, [], ◌∷◌, ◌++◌, length, Decides, sym, refl, ap, ◌∙◌, subst, append_assoc, append-nil, arith, rules, length-append}
use Rattle.std.proofs.Math.Decide.{dec_lt}
use Rattle.std.proofs.lemmas.Bool.{lt-ltb, le-ltb}
use Rattle.automata.specs.Cores.{Core, ctrue, cfalse, con, coff, cnext, cand, cor, cuntil, crelease}
use Rattle.automata.specs.Sheets.{same, number_on, Written, put, put1, put2, write}
use Rattle.automata.specs.declared.nodes.CoreNode.{CoreNode}
use Rattle.automata.specs.declared.nodes.CoreNode.TheVariants.{True, False, On, Off, Next, And, Or, Until, Release}

-- ---- equal nodes
pub same_decides : (x y : CoreNode) → Decides (same x y) (x ≡ y)
unfolding same
same_decides x y = search rules

same_self : (x : CoreNode) → same x x ≡ true
same_self x = (same_decides x x).1 refl

-- ---- the number of a node
pub number_le : (n : CoreNode) (xs : List CoreNode) → number_on n xs ≤ length xs
number_le n [] = omega arith
number_le n (x ∷ xs) = go (same x n) (number_le n xs)
  where
    go : (b : Bool) → number_on n xs ≤ length xs → cond b 0 (suc (number_on n xs)) ≤ suc (length xs)
    go true h = omega arith
    go false h = omega arith

number_more : (n : CoreNode) (xs ys : List CoreNode) → number_on n xs < length xs → number_on n (xs ++ ys) ≡ number_on n xs
number_more n [] ys h = absurd (omega arith)
number_more n (x ∷ xs) ys h = go (same x n) h (number_more n xs ys)
  where
    go : (b : Bool) → cond b 0 (suc (number_on n xs)) < suc (length xs) → (number_on n xs < length xs → number_on n (xs ++ ys) ≡ number_on n xs)
        → cond b 0 (suc (number_on n (xs ++ ys))) ≡ cond b 0 (suc (number_on n xs))
    go true h r = refl
    go false h r = ap suc (r (omega arith))

number_push : (n : CoreNode) (xs ys : List CoreNode) → length xs ≤ number_on n xs → number_on n (xs ++ (n ∷ ys)) ≡ length xs
number_push n [] ys h = ap (λ b. cond b 0 (suc (number_on n ys))) (same_self n)
number_push n (x ∷ xs) ys h = go (same x n) h (number_push n xs ys)
  where
    go : (b : Bool) → suc (length xs) ≤ cond b 0 (suc (number_on n xs)) → (length xs ≤ number_on n xs → number_on n (xs ++ (n ∷ ys)) ≡ length xs)
        → cond b 0 (suc (number_on n (xs ++ (n ∷ ys)))) ≡ suc (length xs)
    go true h r = absurd (omega arith)
    go false h r = ap suc (r (omega arith))

abbrev pub written : List CoreNode → ℕ → Written
written xs k = record { sheet = xs; root = k }

pub put_found : (n : CoreNode) (xs : List CoreNode) (k : ℕ) → number_on n xs ≡ k → k < length xs → put n xs ≡ written xs k
put_found n xs k e h = λ i. record { sheet = ap (λ b. cond b xs (xs ++ n ∷ [])) (lt-ltb (number_on n xs) (length xs) (omega arith)) i; root = e i }

pub put_new : (n : CoreNode) (xs : List CoreNode) → length xs ≤ number_on n xs → put n xs ≡ written (xs ++ n ∷ []) (length xs)
put_new n xs h = λ i. record { sheet = ap (λ b. cond b xs (xs ++ n ∷ [])) (le-ltb (number_on n xs) (length xs) h) i; root = both (number_le n xs) h i }
  where
    both : {a b : ℕ} → a ≤ b → b ≤ a → a ≡ b
    both h l = omega arith

data Case (n : CoreNode) (xs : List CoreNode) : Type 0 where
  found : number_on n xs < length xs → put n xs ≡ written xs (number_on n xs) → Case n xs
  pushed : length xs ≤ number_on n xs → put n xs ≡ written (xs ++ n ∷ []) (length xs) → Case n xs

put_case : (n : CoreNode) (xs : List CoreNode) → Case n xs
put_case n xs = elim (dec_lt (number_on n xs) (length xs)) [ yes h ↦ found h (put_found n xs (number_on n xs) refl h) | no h ↦ pushed (omega arith) (put_new n xs (omega arith)) ]

put_again : (n : CoreNode) (xs ys : List CoreNode) → put n ((put n xs).sheet ++ ys) ≡ written ((put n xs).sheet ++ ys) (put n xs).root
put_again n xs ys = go (put_case n xs)
  where
    go : Case n xs → put n ((put n xs).sheet ++ ys) ≡ written ((put n xs).sheet ++ ys) (put n xs).root
    go (found h e) =
        subst (λ W. put n (W.sheet ++ ys) ≡ written (W.sheet ++ ys) W.root) (sym e)
        (put_found n (xs ++ ys) (number_on n xs) (number_more n xs ys h) (omega (arith, length-append xs ys)))
    go (pushed h e) =
        let f : (xs ++ n ∷ []) ++ ys ≡ xs ++ (n ∷ ys) = append_assoc xs (n ∷ []) ys in
        subst (λ W. put n (W.sheet ++ ys) ≡ written (W.sheet ++ ys) W.root) (sym e)
        (put_found n ((xs ++ n ∷ []) ++ ys) (length xs) (ap (number_on n) f ∙ number_push n xs ys h) (omega (arith, ap length f, length-append xs (n ∷ ys))))

-- ---- the sheet only grows
abbrev pub Begins : List CoreNode → List CoreNode → Type 0
Begins xs xs' = (ys : List CoreNode) × (xs' ≡ xs ++ ys)

pub begins_trans : (xs ys zs : List CoreNode) → Begins xs ys → Begins ys zs → Begins xs zs
begins_trans xs ys zs (u, e) (v, f) = (u ++ v, f ∙ ap (λ y. y ++ v) e ∙ append_assoc xs u v)

pub begins_long : (xs ys : List CoreNode) → Begins xs ys → length xs ≤ length ys
begins_long xs ys b = omega (arith, ap length b.1, length-append xs b.0)

pub put_begins : (n : CoreNode) (xs : List CoreNode) → Begins xs (put n xs).sheet
put_begins n xs = go (put_case n xs)
  where
    go : Case n xs → Begins xs (put n xs).sheet
    go (found h e) = ([], ap (λ W. W.sheet) e ∙ sym (append-nil xs))
    go (pushed h e) = (n ∷ [], ap (λ W. W.sheet) e)

two_begins : (node : ℕ → ℕ → CoreNode) (xs : List CoreNode) (A B : Written) → Begins xs A.sheet → Begins A.sheet B.sheet → Begins xs (put2 node A.root B).sheet
two_begins node xs A B p q = begins_trans _ _ _ p (begins_trans _ _ _ q (put_begins (node A.root B.root) B.sheet))

pub write_begins : (c : Core) (xs : List CoreNode) → Begins xs (write c xs).sheet
unfolding write
write_begins ctrue xs = put_begins True xs
write_begins cfalse xs = put_begins False xs
write_begins (con s) xs = put_begins (On s) xs
write_begins (coff s) xs = put_begins (Off s) xs
write_begins (cnext a) xs = begins_trans _ _ _ (write_begins a xs) (put_begins (Next (write a xs).root) _)
write_begins (cand a b) xs = two_begins And xs (write a xs) (write b _) (write_begins a xs) (write_begins b _)
write_begins (cor a b) xs = two_begins Or xs (write a xs) (write b _) (write_begins a xs) (write_begins b _)
write_begins (cuntil a b) xs = two_begins Until xs (write a xs) (write b _) (write_begins a xs) (write_begins b _)
write_begins (crelease a b) xs = two_begins Release xs (write a xs) (write b _) (write_begins a xs) (write_begins b _)

-- ---- again
-- c stands on the sheet as number k, and on each longer one
abbrev pub Stays : Core → List CoreNode → ℕ → Type 0
Stays c xs k = (ys : List CoreNode) → write c (xs ++ ys) ≡ written (xs ++ ys) k

pub stays_more : (c : Core) (xs xs' : List CoreNode) (k : ℕ) → Begins xs xs' → Stays c xs k → Stays c xs' k
stays_more c xs xs' k (u, e) h ys =
    let f : xs' ++ ys ≡ xs ++ (u ++ ys) = ap (λ y. y ++ ys) e ∙ append_assoc xs u ys in
    subst (λ y. write c y ≡ written y k) (sym f) (h (u ++ ys))

pub stays_here : (c : Core) (xs : List CoreNode) (k : ℕ) → Stays c xs k → write c xs ≡ written xs k
stays_here c xs k h = subst (λ y. write c y ≡ written y k) (append-nil xs) (h [])

two_again : (node : ℕ → ℕ → CoreNode) (a b : Core) (xs : List CoreNode)
    → Stays a (write a xs).sheet (write a xs).root → Stays b (write b (write a xs).sheet).sheet (write b (write a xs).sheet).root
    → (ys : List CoreNode) → let W = put2 node (write a xs).root (write b (write a xs).sheet) in
    let A = write a (W.sheet ++ ys) in put2 node A.root (write b A.sheet) ≡ written (W.sheet ++ ys) W.root
two_again node a b xs p q ys =
    let A = write a xs in
    let B = write b A.sheet in
    let W = put2 node A.root B in
    let g = put_begins (node A.root B.root) B.sheet in
    let ea = stays_more a A.sheet W.sheet A.root (begins_trans _ _ _ (write_begins b A.sheet) g) p ys in
    let eb = stays_more b B.sheet W.sheet B.root g q ys in
    ap (λ X. put2 node X.root (write b X.sheet)) ea ∙ ap (put2 node A.root) eb ∙ put_again (node A.root B.root) B.sheet ys

-- what has been written stays
pub write_stays : (c : Core) (xs : List CoreNode) → Stays c (write c xs).sheet (write c xs).root
unfolding write
write_stays ctrue xs ys = put_again True xs ys
write_stays cfalse xs ys = put_again False xs ys
write_stays (con s) xs ys = put_again (On s) xs ys
write_stays (coff s) xs ys = put_again (Off s) xs ys
write_stays (cnext a) xs ys =
    let A = write a xs in
    ap (put1 Next) (stays_more a A.sheet _ A.root (put_begins (Next A.root) A.sheet) (write_stays a xs) ys) ∙ put_again (Next A.root) A.sheet ys
write_stays (cand a b) xs ys = two_again And a b xs (write_stays a xs) (write_stays b _) ys
write_stays (cor a b) xs ys = two_again Or a b xs (write_stays a xs) (write_stays b _) ys
write_stays (cuntil a b) xs ys = two_again Until a b xs (write_stays a xs) (write_stays b _) ys
write_stays (crelease a b) xs ys = two_again Release a b xs (write_stays a xs) (write_stays b _) ys

-- ---- the number of what is written is one of the sheet
put_root : (n : CoreNode) (xs : List CoreNode) → (put n xs).root < length (put n xs).sheet
put_root n xs = go (put_case n xs)
  where
    go : Case n xs → (put n xs).root < length (put n xs).sheet
    go (found h e) = subst (λ W. W.root < length W.sheet) (sym e) h
    go (pushed h e) = subst (λ W. W.root < length W.sheet) (sym e) (omega (arith, length-append xs (n ∷ [])))

pub write_root : (c : Core) (xs : List CoreNode) → (write c xs).root < length (write c xs).sheet
unfolding write
write_root ctrue xs = put_root True xs
write_root cfalse xs = put_root False xs
write_root (con s) xs = put_root (On s) xs
write_root (coff s) xs = put_root (Off s) xs
write_root (cnext a) xs = put_root _ _
write_root (cand a b) xs = put_root _ _
write_root (cor a b) xs = put_root _ _
write_root (cuntil a b) xs = put_root _ _
write_root (crelease a b) xs = put_root _ _
