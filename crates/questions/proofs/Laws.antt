-- A judgement is told apart by its number; and what is said of a question, by its judgement.
use Rattle.std.specs.Prelude.{ℕ, ◌≡◌, refl, Bool, true, false, not, cond, List, eqb, Result, Ok, Err}
use Rattle.std.proofs.Common.{sym, ap, ◌∙◌}
use Rattle.std.proofs.Math.Option.{Option, none, some}
use Rattle.world.specs.declared.Body.{Body}
use Rattle.world.specs.declared.Request.{Request}
use Rattle.world.specs.declared.Window.{Window}
use Rattle.questions.specs.declared.Judgement.{Judgement}
use Rattle.questions.specs.declared.Judgement.TheVariants.{BadWorld, Invalid, TooLarge}
use Rattle.questions.specs.Questions.{judged, question, judgement_number, question_number}

-- ---- a judgement, by its number

abbrev judgement : Option ℕ → Result (Unit {0}) Judgement
judgement (some n) = Err (cond (eqb n 3) BadWorld (cond (eqb n 1) Invalid TooLarge))
judgement none = Ok tt

judgement_back : (j : Result (Unit {0}) Judgement) → judgement (judgement_number j) ≡ j
unfolding judgement_number
judgement_back (Err BadWorld) = refl
judgement_back (Err Invalid) = refl
judgement_back (Err TooLarge) = refl
judgement_back (Ok tt) = refl

pub one_judgement : (j k : Result (Unit {0}) Judgement) → judgement_number j ≡ judgement_number k → j ≡ k
one_judgement j k e = sym (judgement_back j) ∙ ap judgement e ∙ judgement_back k

-- ---- what is said of a question

module _ {A : Type 0} (bad invalid large answer : A) where
  abbrev pub said_of : Result (Unit {0}) Judgement → A
  said_of (Err BadWorld) = bad
  said_of (Err Invalid) = invalid
  said_of (Err TooLarge) = large
  said_of (Ok _) = answer

  pub said : (w : Window) (cells shapes boxes : List ℕ) (r : Request) (body : Body) {j : Result (Unit {0}) Judgement} → question w cells shapes boxes r body ≡ j →
      said_of j ≡ judged w cells shapes boxes r body bad invalid large answer
  said w cells shapes boxes r body e = ap said_of (sym e) ∙ go _ _ _
    where
      go : (b v l : Bool) → said_of (cond b (Err BadWorld) (cond (not v) (Err Invalid) (cond l (Err TooLarge) (Ok tt)))) ≡ cond b bad (cond (not v) invalid (cond l large answer))
      go true v l = refl
      go false false l = refl
      go false true true = refl
      go false true false = refl

-- the number of a question's judgement is the question's
pub question_told : (w : Window) (cells shapes boxes : List ℕ) (r : Request) (body : Body) → judgement_number (question w cells shapes boxes r body) ≡ question_number w cells shapes boxes r body
unfolding judgement_number
question_told w cells shapes boxes r body = go _ _ _
  where
    go : (b v l : Bool) → judgement_number (cond b (Err BadWorld) (cond (not v) (Err Invalid) (cond l (Err TooLarge) (Ok tt)))) ≡ cond b (some 3) (cond (not v) (some 1) (cond l (some 4) none))
    go true v l = refl
    go false false l = refl
    go false true true = refl
    go false true false = refl
