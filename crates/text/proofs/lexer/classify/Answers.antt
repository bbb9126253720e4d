use Rattle.std.proofs.Common.{◌≡◌, ℕ, ◌-◌, ◌<◌, true, ◌⊎◌, List, length, get_or, take, drop, sym, refl, ap, ◌∙◌, inl, inr, arith, rules}
use Rattle.text.specs.Kinds.{arrow, blank, head, pattern, cost, kind}
use Rattle.text.specs.Numbers.{is_numeral, said_number}
use Rattle.text.specs.declared.token.Token.TheVariants.{Arrow, Blank, Head, Pattern, Cost, Unknown}
use Rattle.text.proofs.Spelled.{Known, of_two, of_five, lettered, rest_of, sound_kind}
use Rattle.text.proofs.lexer.classify.Goals as goal

-- a known word by its length and bytes: an arrow, blank, or a letter before a number
abbrev Looks : List ℕ → Type 0
Looks w = ((length w ≡ 2) × (get_or w 0 0 ≡ 45) × (get_or w 1 0 ≡ 62))
    ⊎ (((length w ≡ 5) × (get_or w 0 0 ≡ 98) × (get_or w 1 0 ≡ 108) × (get_or w 2 0 ≡ 97) × (get_or w 3 0 ≡ 110) × (get_or w 4 0 ≡ 107))
    ⊎ ((0 < length w) × (is_numeral (take (length w - 1) (drop 1 w)) ≡ true) × ((get_or w 0 0 ≡ 72) ⊎ ((get_or w 0 0 ≡ 80) ⊎ (get_or w 0 0 ≡ 35)))))

looks : (w : List ℕ) → Known w → Looks w
looks w (inl e) = inl (ap length e, ap (λ v. get_or v 0 0) e, ap (λ v. get_or v 1 0) e)
looks w (inr (inl e)) = inr (inl (ap length e, ap (λ v. get_or v 0 0) e, ap (λ v. get_or v 1 0) e, ap (λ v. get_or v 2 0) e, ap (λ v. get_or v 3 0) e, ap (λ v. get_or v 4 0) e))
looks w (inr (inr (inl (d, t, e)))) = inr (inr (omega (arith, ap length e), ap is_numeral (rest_of w d 72 e) ∙ t, inl (ap (λ v. get_or v 0 0) e)))
looks w (inr (inr (inr (inl (d, t, e))))) = inr (inr (omega (arith, ap length e), ap is_numeral (rest_of w d 80 e) ∙ t, inr (inl (ap (λ v. get_or v 0 0) e))))
looks w (inr (inr (inr (inr (d, t, e))))) = inr (inr (omega (arith, ap length e), ap is_numeral (rest_of w d 35 e) ∙ t, inr (inr (ap (λ v. get_or v 0 0) e))))

-- what the word is follows from how it is spelled
pub returns-in-45 : goal.returns-in-45
returns-in-45 c =
    let w = c.args.word in
    let k : kind w.now ≡ arrow = sound_kind (Arrow w c.args.at) (of_two w.now 45 62 (search rules) (search rules) (search rules)) in
    record { word = refl; place = refl; sound = cc; is = cc }

pub returns-in-blank : goal.returns-in-blank
returns-in-blank c =
    let w = c.args.word in
    let k : kind w.now ≡ blank = sound_kind (Blank w c.args.at) (of_five w.now 98 108 97 110 107 (search rules) (search rules) (search rules) (search rules) (search rules) (search rules)) in
    record { word = refl; place = refl; sound = cc; is = cc }

pub returns-in-72 : goal.returns-in-72
returns-in-72 c =
    let w = c.args.word in
    let h : get_or w.now 0 0 ≡ 72 = grind arith in
    let k : kind w.now ≡ head (said_number (drop 1 w.now)) = sound_kind (Head w c.args.at) (lettered w.now 72 (omega arith) h (sym c.if-is_numeral-2.ensures)) in
    record { word = refl; place = refl; sound = cc; is = cc }

pub returns-in-80 : goal.returns-in-80
returns-in-80 c =
    let w = c.args.word in
    let h : get_or w.now 0 0 ≡ 80 = grind arith in
    let k : kind w.now ≡ pattern (said_number (drop 1 w.now)) = sound_kind (Pattern w c.args.at) (lettered w.now 80 (omega arith) h (sym c.if-is_numeral.ensures)) in
    record { word = refl; place = refl; sound = cc; is = cc }

pub returns-in-35 : goal.returns-in-35
returns-in-35 c =
    let w = c.args.word in
    let h : get_or w.now 0 0 ≡ 35 = grind arith in
    let k : kind w.now ≡ cost (said_number (drop 1 w.now)) = sound_kind (Cost w c.args.at) (lettered w.now 35 (omega arith) h (sym c.if-is_numeral-3.ensures)) in
    record { word = refl; place = refl; sound = cc; is = cc }

pub returns-in_default : goal.returns-in_default
returns-in_default c =
    let no : Known c.args.word.now → ⊥ = λ k. (let l : Looks c.args.word.now = looks c.args.word.now k in grind arith) in
    let k = sound_kind (Unknown c.args.word c.args.at) no in
    record { word = refl; place = refl; sound = k; is = sym k }
