-- The nodes of a reading determine it.
use Rattle.std.proofs.Common.{◌≡◌, ℕ, suc, ◌+◌, Bool, List, [], ◌∷◌, ◌++◌, map, length, sym, refl, ap, ◌∙◌, subst, ap₂, append_assoc, arith, length-append}
use Rattle.grammar.specs.Productions.{Book, right_of}
use Rattle.grammar.specs.Readings.{Reading, Parts, node, no_part, event, part, Reads, by_rule, Along, at_end, at_event, at_part}
use Rattle.grammar.specs.Nodes.{events, events_in, Node, nodes, nodes_in}

-- the rules of a reading, in the order of its nodes
abbrev mutual
  pub rules : Reading → List ℕ
  rules (node n ps) = n ∷ rules_in ps

  pub rules_in : Parts → List ℕ
  rules_in no_part = []
  rules_in (event ps) = rules_in ps
  rules_in (part r ps) = rules r ++ rules_in ps

abbrev pub by_of : Node → ℕ
by_of k = k.rule

pub map_append : {A B : Type 0} (f : A → B) (xs ys : List A) → map f (xs ++ ys) ≡ map f xs ++ map f ys
map_append f [] ys = refl
map_append f (x ∷ xs) ys = ap (λ l. f x ∷ l) (map_append f xs ys)

mutual
  pub nodes_rules : (i : ℕ) (r : Reading) → map by_of (nodes i r) ≡ rules r
  nodes_rules i (node n ps) = ap (λ l. n ∷ l) (nodes_in_rules i ps)

  pub nodes_in_rules : (i : ℕ) (ps : Parts) → map by_of (nodes_in i ps) ≡ rules_in ps
  nodes_in_rules i no_part = refl
  nodes_in_rules i (event ps) = nodes_in_rules (suc i) ps
  nodes_in_rules i (part r ps) = map_append by_of (nodes i r) (nodes_in (i + events r) ps)
      ∙ ap₂ ◌++◌ (nodes_rules i r) (nodes_in_rules (i + events r) ps)

module _ (W : Book) {E : Type 0} (fits : E → ℕ → Bool) where
  -- a reading has as many events as it derives
  mutual
    pub events_length : {x : ℕ} {r : Reading} {w : List E} → Reads W fits x r w → events r ≡ length w
    events_length (by_rule m h a) = events_in_length a

    pub events_in_length : {ys : List ℕ} {ps : Parts} {w : List E} → Along W fits ys ps w → events_in ps ≡ length w
    events_in_length at_end = refl
    events_in_length (at_event q f a) = ap suc (events_in_length a)
    events_in_length (at_part {u = u} {v = v} l d a e) =
        let i = events_length d in let j = events_in_length a in omega (arith, length-append u v, ap length e)

  -- readings with the same rules in order, whatever follows, are the same
  mutual
    pub same_reading : {x x' : ℕ} {r r' : Reading} {w w' : List E} (l l' : List ℕ) → Reads W fits x r w → Reads W fits x' r' w'
        → rules r ++ l ≡ rules r' ++ l' → (r ≡ r') × (l ≡ l')
    same_reading l l' (by_rule {n = n} {ps = ps} m h a) (by_rule {n = n'} {ps = ps'} {w = w'} m' h' a') e =
        let i : n ≡ n' = cc in
        let q = same_parts l l' a (subst (λ k. Along W fits (right_of W k) ps' w') (sym i) a') (cc) in
        (ap₂ node i q.0, q.1)

    pub same_parts : {ys : List ℕ} {ps ps' : Parts} {w w' : List E} (l l' : List ℕ) → Along W fits ys ps w → Along W fits ys ps' w'
        → rules_in ps ++ l ≡ rules_in ps' ++ l' → (ps ≡ ps') × (l ≡ l')
    same_parts l l' at_end at_end e = (refl, e)
    same_parts l l' (at_event q f a) (at_event q' f' a') e = let k = same_parts l l' a a' e in (ap event k.0, k.1)
    same_parts l l' (at_event q f a) (at_part s d a' c) e = absurd (omega arith)
    same_parts l l' (at_part s d a c) (at_event q f a') e = absurd (omega arith)
    same_parts l l' (at_part {r = r} {ps = ps} s d a c) (at_part {r = r'} {ps = ps'} s' d' a' c') e =
        let k = same_reading (rules_in ps ++ l) (rules_in ps' ++ l') d d'
        (sym (append_assoc (rules r) (rules_in ps) l) ∙ e ∙ append_assoc (rules r') (rules_in ps') l') in
        let j = same_parts l l' a a' k.1 in
        (ap₂ part k.0 j.0, j.1)

  -- the list of nodes determines the reading
  pub told_by_nodes : (i : ℕ) {x x' : ℕ} {r r' : Reading} {w w' : List E} → Reads W fits x r w → Reads W fits x' r' w'
      → nodes i r ≡ nodes i r' → r ≡ r'
  told_by_nodes i {r = r} {r' = r'} d d' e =
      (same_reading [] [] d d' (ap (λ l. l ++ []) (sym (nodes_rules i r) ∙ ap (map by_of) e ∙ nodes_rules i r'))).0
