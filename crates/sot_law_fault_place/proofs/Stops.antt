-- Where reading stops, what was read begins a form of the grammar: the steps of chains.
use Rattle.std.proofs.Common.{◌≡◌, cond, List, [], ◌∷◌, ◌++◌, Bool, true, false, Ok, Err, refl, sym, ap, subst, ◌∙◌, append_assoc}
use Rattle.sot_text.specs.Reading.{Lexeme}
use Rattle.sot_expression.specs.Readers.{Read, Fault, stuck, deep, ◌>>=◌}
use Rattle.sot_parser.proofs.SoundSteps.{Sound}
use Rattle.sot_law_fault_place.specs.Places.{AreTokens}

abbrev pub err : {A : Type 0} → Fault × List Lexeme → Read A
err e = Err e

-- the tokens of a form, with more behind
abbrev pub Spelling : Type 0 → Type 0
Spelling F = F → List Lexeme → List Lexeme

-- what stands behind stays as it is
abbrev pub Appends : (List Lexeme → List Lexeme) → Type 0
Appends tokens = (us vs : List Lexeme) → tokens (us ++ vs) ≡ tokens us ++ vs

-- the tokens begin some form
pub record Begun {F : Type 0} (spelled : Spelling F) (used : List Lexeme) : Type 0 where
  pub form : F
  pub more : List Lexeme
  pub real : AreTokens more
  pub spells : (behind : List Lexeme) → spelled form behind ≡ used ++ (more ++ behind)

-- a token at which it nests too deep still belongs to what was read
abbrev pub seen_of : Fault → List Lexeme → List Lexeme
seen_of stuck ts = []
seen_of deep [] = []
seen_of deep (t ∷ ts) = t ∷ []

abbrev pub HasToken : Fault → List Lexeme → Type 0
HasToken stuck ts = Unit {0}
HasToken deep [] = ⊥
HasToken deep (t ∷ ts) = Unit {0}

-- reading stops at these tokens, and those before them begin a form
pub record Stop {F : Type 0} (spelled : Spelling F) (e : Fault × List Lexeme) (ts : List Lexeme) : Type 0 where
  pub used : List Lexeme
  pub split : ts ≡ used ++ e.1
  pub begun : Begun spelled (used ++ seen_of e.0 e.1)
  pub token : HasToken e.0 e.1

abbrev pub Stops : {F A : Type 0} → Spelling F → (List Lexeme → Read A) → Type 0
Stops {F} {A} spelled g = (ts : List Lexeme) (e : Fault × List Lexeme) → g ts ≡ Err e → Stop spelled e ts

-- what a reader needs to stand in a chain
pub record Twin {F A : Type 0} (spelled : Spelling F) (g : List Lexeme → Read A) : Type 0 where
  pub appends : (f : F) → Appends (spelled f)
  pub some : Begun spelled []
  pub stops : Stops spelled g

pub real_append : (us vs : List Lexeme) → AreTokens us → AreTokens vs → AreTokens (us ++ vs)
real_append [] vs a b = b
real_append (u ∷ us) vs a b = (a.0, real_append us vs a.1 b)

-- one form behind another
abbrev pub both : {F G : Type 0} → Spelling F → Spelling G → Spelling (F × G)
both s t p behind = s p.0 (t p.1 behind)

pub both_append : {F G : Type 0} (s : Spelling F) (t : Spelling G) → ((f : F) → Appends (s f)) → ((g : G) → Appends (t g)) → (p : F × G) → Appends (both s t p)
both_append s t a b p us vs = ap (s p.0) (b p.1 us vs) ∙ a p.0 (t p.1 us) vs

pub both_begun : {F G : Type 0} {s : Spelling F} {t : Spelling G} (used : List Lexeme) → Begun s used → Begun t [] → Begun (both s t) used
both_begun {t = t} used b d = record {
  form = (b.form, d.form);
  more = b.more ++ d.more;
  real = real_append b.more d.more b.real d.real;
  spells =
      λ behind. b.spells (t d.form behind) ∙ (ap (λ us. used ++ (b.more ++ us)) (d.spells behind)
      ∙ ap (λ us. used ++ us) (sym (append_assoc b.more d.more behind)));
}

first_stops : {F G : Type 0} {s : Spelling F} {t : Spelling G} (e : Fault × List Lexeme) (ts : List Lexeme) → Begun t [] → Stop s e ts → Stop (both s t) e ts
first_stops e ts d stop = record { used = stop.used; split = stop.split; begun = both_begun (stop.used ++ seen_of e.0 e.1) stop.begun d; token = stop.token }

-- behind tokens that were read before, and inside a form that begins with them
pub stop_in : {F G : Type 0} {s : Spelling F} {t : Spelling G} (tokens : List Lexeme → List Lexeme) → Appends tokens → (whole : F → G)
    → ((f : F) (behind : List Lexeme) → t (whole f) behind ≡ tokens (s f behind))
    → (e : Fault × List Lexeme) (us : List Lexeme) → Stop s e us → Stop t e (tokens us)
stop_in {s = s} {t = t} tokens a whole same e us stop =
    let seen = seen_of e.0 e.1 in
    record {
      used = tokens stop.used;
      split = ap tokens stop.split ∙ a stop.used e.1;
      begun = record {
        form = whole stop.begun.form;
        more = stop.begun.more;
        real = stop.begun.real;
        spells = λ behind.
            let rest = stop.begun.more ++ behind in
            same stop.begun.form behind ∙ (ap tokens (stop.begun.spells behind ∙ append_assoc stop.used seen rest)
            ∙ (a stop.used (seen ++ rest) ∙ sym (append_assoc (tokens stop.used) seen rest)));
      };
      token = stop.token;
    }

second_stops : {F G : Type 0} (s : Spelling F) (t : Spelling G) (f : F) → Appends (s f) → (e : Fault × List Lexeme) (us : List Lexeme) → Stop t e us
    → Stop (both s t) e (s f us)
second_stops s t f a e us stop = stop_in (s f) a (λ g. (f, g)) (λ g behind. refl) e us stop

-- one step of a chain
pub then_stops : {F G A B : Type 0} {s : Spelling F} {t : Spelling G} {tree : F → A} {Fits : F → Type 0} {g : List Lexeme → Read A} → Sound s tree Fits g
    → Twin s g → Begun t [] → (k : A × List Lexeme → Read B)
    → ((f : F) → Fits f → Stops t (λ us. k (tree f, us))) → Stops (both s t) (λ ts. g ts >>= k)
then_stops {s = s} {t = t} {tree = tree} {g = g} sound a d k next ts e eq = by (g ts) refl eq
  where
    by : (r : Read _) → g ts ≡ r → (r >>= k) ≡ Err e → Stop (both s t) e ts
    by (Err f) is e1 = let same : f ≡ e = cc in first_stops e ts d (subst (λ z. Stop s z ts) same (a.stops ts f is))
    by (Ok x) is e1 =
        let found = sound ts x is in
        let e2 : k (tree found.0, x.1) ≡ err e = subst (λ z. k (z, x.1) ≡ err e) found.3 e1 in
        subst (λ us. Stop (both s t) e us) (sym found.2) (second_stops s t found.0 (a.appends found.0) e x.1 (next found.0 found.1 x.1 e e2))

-- the last step of a chain, which only answers
pub last_stops : {F A B : Type 0} {s : Spelling F} {g : List Lexeme → Read A} {k : A × List Lexeme → Read B} → Stops s g
    → ((x : A × List Lexeme) → (y : B × List Lexeme) × (k x ≡ Ok y)) → Stops s (λ ts. g ts >>= k)
last_stops {s = s} {g = g} {k = k} stops answers ts e eq = by (g ts) refl eq
  where
    by : (r : Read _) → g ts ≡ r → (r >>= k) ≡ Err e → Stop s e ts
    by (Err f) is e1 = let same : f ≡ e = cc in subst (λ z. Stop s z ts) same (stops ts f is)
    by (Ok x) is e1 = let y = answers x in absurd cc

-- forms of one kind inside those of another
pub inside : {F G : Type 0} {s : Spelling F} {t : Spelling G} {used : List Lexeme} (whole : F → G)
    → ((f : F) (behind : List Lexeme) → t (whole f) behind ≡ s f behind) → Begun s used → Begun t used
inside whole same b = record { form = whole b.form; more = b.more; real = b.real; spells = λ behind. same b.form behind ∙ b.spells behind }

pub stop_inside : {F G : Type 0} {s : Spelling F} {t : Spelling G} (whole : F → G) → ((f : F) (behind : List Lexeme) → t (whole f) behind ≡ s f behind)
    → (e : Fault × List Lexeme) (ts : List Lexeme) → Stop s e ts → Stop t e ts
stop_inside whole same e ts stop = record { used = stop.used; split = stop.split; begun = inside whole same stop.begun; token = stop.token }

pub stops_inside : {F G A : Type 0} {s : Spelling F} {t : Spelling G} {g : List Lexeme → Read A} (whole : F → G)
    → ((f : F) (behind : List Lexeme) → t (whole f) behind ≡ s f behind) → Stops s g → Stops t g
stops_inside whole same stops ts e eq = stop_inside whole same e ts (stops ts e eq)

-- one of two, by the next token
pub either_stops : {F A : Type 0} {s : Spelling F} (test : List Lexeme → Bool) (m n : List Lexeme → Read A) → Stops s m → Stops s n
    → Stops s (λ ts. cond (test ts) (m ts) (n ts))
either_stops {s = s} test m n a b ts e eq = by (test ts) eq
  where
    by : (c : Bool) → cond c (m ts) (n ts) ≡ Err e → Stop s e ts
    by true e1 = a ts e e1
    by false e1 = b ts e e1

-- what never stops
pub never_stops : {F A : Type 0} {s : Spelling F} (g : List Lexeme → Read A) → ((ts : List Lexeme) → (y : A × List Lexeme) × (g ts ≡ Ok y)) → Stops s g
never_stops g answers ts e eq = let y = answers ts in absurd cc

-- a record, by the chain of its parts
pub twin_of : {F G A : Type 0} {s : Spelling F} {t : Spelling G} {g : List Lexeme → Read A} (whole : F → G) (parts : G → F)
    → ((f : F) (behind : List Lexeme) → t (whole f) behind ≡ s f behind)
    → ((w : G) (behind : List Lexeme) → t w behind ≡ s (parts w) behind) → Twin s g → Twin t g
twin_of {s = s} {t = t} whole parts same back twin = record {
  appends = λ w us vs. back w (us ++ vs) ∙ (twin.appends (parts w) us vs ∙ ap (λ x. x ++ vs) (sym (back w us)));
  some = inside whole same twin.some;
  stops = stops_inside whole same twin.stops;
}

-- a chain of two, and of more by its second part
pub then_twin : {F G A B : Type 0} {s : Spelling F} {t : Spelling G} {tree : F → A} {Fits : F → Type 0} {g : List Lexeme → Read A} → Sound s tree Fits g
    → Twin s g → (k : A × List Lexeme → Read B) → ((a : A) → Twin t (λ us. k (a, us))) → Twin (both s t) (λ ts. g ts >>= k)
then_twin {s = s} {t = t} {tree = tree} sound a k b =
    let d = b (tree a.some.form) in
    record {
      appends = both_append s t a.appends d.appends;
      some = both_begun [] a.some d.some;
      stops = then_stops sound a d.some k (λ f _. (b (tree f)).stops);
    }

pub last_twin : {F A B : Type 0} {s : Spelling F} {g : List Lexeme → Read A} {k : A × List Lexeme → Read B} → Twin s g
    → ((x : A × List Lexeme) → (y : B × List Lexeme) × (k x ≡ Ok y)) → Twin s (λ ts. g ts >>= k)
last_twin twin answers = record { appends = twin.appends; some = twin.some; stops = last_stops twin.stops answers }

-- with what is known of the next token
pub cases_stops : {F A : Type 0} {s : Spelling F} (test : List Lexeme → Bool) (m n : List Lexeme → Read A)
    → ((ts : List Lexeme) (e : Fault × List Lexeme) → test ts ≡ true → m ts ≡ Err e → Stop s e ts) → Stops s n → Stops s (λ ts. cond (test ts) (m ts) (n ts))
cases_stops {s = s} test m n a b ts e eq = by (test ts) refl eq
  where
    by : (c : Bool) → test ts ≡ c → cond c (m ts) (n ts) ≡ Err e → Stop s e ts
    by true is e1 = a ts e is e1
    by false is e1 = b ts e e1

-- it would nest too deep at a token that some form begins with
pub too_deep : {F : Type 0} {s : Spelling F} (t : Lexeme) → Begun s (t ∷ []) → (ts : List Lexeme) (e : Fault × List Lexeme) → (deep, t ∷ ts) ≡ e
    → Stop s e (t ∷ ts)
too_deep {s = s} t begun ts e is = subst (λ z. Stop s z (t ∷ ts)) is (record { used = []; split = refl; begun = begun; token = tt })

pub begun_behind : {F : Type 0} {s : Spelling F} {used : List Lexeme} (t : Lexeme) → Begun s used → Begun (λ f behind. t ∷ s f behind) (t ∷ used)
begun_behind t b = record { form = b.form; more = b.more; real = b.real; spells = λ behind. ap (λ us. t ∷ us) (b.spells behind) }
