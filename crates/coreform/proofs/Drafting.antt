-- One node more on a draft.
use Rattle.std.proofs.Common.{◌≡◌, ℕ, suc, ◌+◌, Bool, true, false, cond, ltb, List, [], ◌∷◌, ◌++◌, length, Some, None, sym, refl, ap, ◌∙◌, arith}
use Rattle.std.specs.List.{position, position_or_len}
use Rattle.std.proofs.lemmas.Bool.{ltb-true, ltb-false}
use Rattle.std.proofs.lemmas.List.{length_push}
use Rattle.std.proofs.lemmas.List.Recursion.{is_position_or_len}
use Rattle.automata.specs.Sheets.{same, number_on, put}
use Rattle.automata.specs.declared.nodes.CoreNode.{CoreNode}
use Rattle.automata.proofs.Again.{written, put_found, put_new}

-- the number of a node, and its position by the library's word
number_is : (n : CoreNode) (xs : List CoreNode) → number_on n xs ≡ position_or_len (λ x. same x n) xs
number_is n xs = is_position_or_len (number_on n) (λ x. same x n) (omega arith) (λ x ys. ap (cond (same x n) 0) (one_more (number_on n ys))) xs
  where
    one_more : (k : ℕ) → suc k ≡ 1 + k
    one_more k = omega arith

position_is : (n : CoreNode) (xs : List CoreNode) → position (λ x. same x n) xs ≡ cond (ltb (number_on n xs) (length xs)) (Some (number_on n xs)) None
position_is n xs = ap (λ k. cond (ltb k (length xs)) (Some k) None) (sym (number_is n xs))

-- a node that stands on the sheet is not written again
pub put_there : (n : CoreNode) (xs : List CoreNode) (k : ℕ) → Some k ≡ position (λ x. same x n) xs → put n xs ≡ written xs k
put_there n xs k e = go (ltb (number_on n xs) (length xs)) refl (sym (position_is n xs) ∙ sym e)
  where
    go : (b : Bool) → ltb (number_on n xs) (length xs) ≡ b → cond b (Some (number_on n xs)) None ≡ Some k → put n xs ≡ written xs k
    go true t f = let l = ltb-true _ _ t in let g : number_on n xs ≡ k = cc in put_found n xs k g (omega arith)
    go false t f = absurd cc

-- any other is written at the end
pub put_next : (n : CoreNode) (xs : List CoreNode) → None ≡ position (λ x. same x n) xs → put n xs ≡ written (xs ++ n ∷ []) (length xs)
put_next n xs e = go (ltb (number_on n xs) (length xs)) refl (sym (position_is n xs) ∙ sym e)
  where
    go : (b : Bool) → ltb (number_on n xs) (length xs) ≡ b → cond b (Some (number_on n xs)) None ≡ None → put n xs ≡ written (xs ++ n ∷ []) (length xs)
    go true t f = absurd cc
    go false t f = put_new n xs (ltb-false _ _ t)

-- and the sheet is longer by one then
pub put_longer : (n : CoreNode) (xs : List CoreNode) → None ≡ position (λ x. same x n) xs → length (put n xs).sheet ≡ length xs + 1
put_longer n xs e = ap (λ w. length w.sheet) (put_next n xs e) ∙ length_push xs n
