-- Faults that are noted one list after another.
use Rattle.std.proofs.Common.{◌≡◌, ◌∙◌, List, [], ◌∷◌, ◌++◌, Option, ap, sym}
use Rattle.sot_rules.specs.declared.fault.TypeFault.{TypeFault}
use Rattle.sot_rules.specs.Faults.{least, together}
use Rattle.sot_rules.proofs.Least.{least_append}

-- two lists
pub two_noted : (x y : List TypeFault) (a b c : Option TypeFault) → b ≡ least a x → c ≡ least b y → c ≡ least a (x ++ y)
two_noted x y a b c p q = q ∙ ap (λ e. least e y) p ∙ sym (least_append a x y)

-- three lists
pub three_noted : (x y z : List TypeFault) (a b c d : Option TypeFault) → b ≡ least a x → c ≡ least b y → d ≡ least c z → d ≡ least a (x ++ (y ++ z))
three_noted x y z a b c d p q r =
    r ∙ ap (λ e. least e z) (q ∙ ap (λ e. least e y) p) ∙ sym (least_append (least a x) y z) ∙ sym (least_append a x (y ++ z))

-- the lists of a node, by what is noted together
pub node_noted : (t d1 d2 d3 e1 e2 e3 f1 f2 f3 g : List TypeFault) (a b c d : Option TypeFault) → b ≡ least a t
    → c ≡ least b ((d1 ++ (d2 ++ d3)) ++ ((e1 ++ (e2 ++ e3)) ++ (f1 ++ (f2 ++ f3)))) → d ≡ least c g
    → d ≡ least a (together (t ∷ d1 ∷ d2 ∷ d3 ∷ e1 ∷ e2 ∷ e3 ∷ f1 ∷ f2 ∷ f3 ∷ g ∷ []))
node_noted t d1 d2 d3 e1 e2 e3 f1 f2 f3 g a b c d p q r =
    r ∙ ap (λ z. least z g) (q ∙ ap (λ z. least z ((d1 ++ (d2 ++ d3)) ++ ((e1 ++ (e2 ++ e3)) ++ (f1 ++ (f2 ++ f3))))) p)
    ∙ simp least_append

-- the lists of a module, those of its nodes together
pub module_noted : (x1 x2 x3 x4 t u v y z : List TypeFault) (a b c d e f g : Option TypeFault) → b ≡ least a (together (x1 ∷ x2 ∷ x3 ∷ x4 ∷ [])) → c ≡ least b t
    → d ≡ least c u → e ≡ least d v → f ≡ least e y → g ≡ least f z → g ≡ least a (together (x1 ∷ x2 ∷ x3 ∷ x4 ∷ t ∷ u ∷ v ∷ y ∷ z ∷ []))
module_noted x1 x2 x3 x4 t u v y z a b c d e f g p q r s o i =
    i ∙ ap (λ h. least h z) (o ∙ ap (λ h. least h y) (s ∙ ap (λ h. least h v) (r ∙ ap (λ h. least h u) (q ∙ ap (λ h. least h t) p))))
    ∙ simp least_append

-- the lists of a plant, by what is noted together
pub plant_noted : (t d1 d2 d3 e1 e2 e3 f1 f2 f3 g1 g2 g3 h1 h2 h3 : List TypeFault) (a b c d e f : Option TypeFault) → b ≡ least a t
    → c ≡ least b (d1 ++ (d2 ++ d3)) → d ≡ least c ((e1 ++ (e2 ++ e3)) ++ (f1 ++ (f2 ++ f3))) → e ≡ least d (g1 ++ (g2 ++ g3)) → f ≡ least e (h1 ++ (h2 ++ h3))
    → f ≡ least a (together (t ∷ d1 ∷ d2 ∷ d3 ∷ e1 ∷ e2 ∷ e3 ∷ f1 ∷ f2 ∷ f3 ∷ g1 ∷ g2 ∷ g3 ∷ h1 ∷ h2 ∷ h3 ∷ []))
plant_noted t d1 d2 d3 e1 e2 e3 f1 f2 f3 g1 g2 g3 h1 h2 h3 a b c d e f p q r s u =
    u ∙ ap (λ z. least z (h1 ++ (h2 ++ h3))) (s ∙ ap (λ z. least z (g1 ++ (g2 ++ g3)))
    (r ∙ ap (λ z. least z ((e1 ++ (e2 ++ e3)) ++ (f1 ++ (f2 ++ f3)))) (q ∙ ap (λ z. least z (d1 ++ (d2 ++ d3))) p)))
    ∙ simp least_append

-- the lists of a program
pub program_noted : (x y z u v w : List TypeFault) (a b c d e f g : Option TypeFault) → b ≡ least a x → c ≡ least b y → d ≡ least c z → e ≡ least d u
    → f ≡ least e v → g ≡ least f w → g ≡ least a (together (x ∷ y ∷ z ∷ u ∷ v ∷ w ∷ []))
program_noted x y z u v w a b c d e f g p q r s t o =
    o ∙ ap (λ h. least h w) (t ∙ ap (λ h. least h v) (s ∙ ap (λ h. least h u) (r ∙ ap (λ h. least h z) (q ∙ ap (λ h. least h y) p))))
    ∙ simp least_append
