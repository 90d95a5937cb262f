-- What a whole text spells.
use Rattle.std.proofs.Common.{◌≡◌, ℕ, ◌≤◌, ◌<◌, ◌-◌, List, [], ◌∷◌, true, false, Option, Some}
use Rattle.std.proofs.Common.{None, Result, Ok, Err, length, ⊎_elim, refl, sym, ap, subst, ◌∙◌, arith}
use Rattle.std.specs.Prelude.{IfOk, IfErr}
use Rattle.std.proofs.lemmas.Bool.{false≢true}
use Rattle.std.proofs.lemmas.Option.{none-some}
use Rattle.sot_text.specs.declared.token.LexFault.{LexFault}
use Rattle.sot_text.specs.Reading.{Lexeme}
use Rattle.sot_text.specs.Ahead.{Ahead, Comes, ahead_from}
use Rattle.sot_text.proofs.Aheads.{ahead_comes, comes_unique}
use Rattle.sot_lang.specs.Tables.{Tables}
use Rattle.sot_lang.specs.TableRules.{MeetsTableRules}
use Rattle.sot_expression.specs.Readers.{Fault}
use Rattle.sot_expression.proofs.ReadSteps.{ok_is}
use Rattle.sot_formula.specs.declared.fail.MonitorFail.{MonitorFail}
use Rattle.sot_formula.specs.declared.fail.MonitorFail.TheVariants as fails
use Rattle.sot_formula.specs.declared.what.What.{What}
use Rattle.sot_formula.specs.Phrases.{Phrase, IsFormulaText, spelled}
use Rattle.sot_formula.specs.Parts.{IsPart, ArePlaced, AreThere}
use Rattle.sot_formula.specs.Reading.{Laid, none_laid, formula_at}
use Rattle.sot_formula.specs.Answers.{IsRead, IsNoFormula, IsUnknown, IsOfOtherScale, Refuses, CausesExcludeEachOther}
use Rattle.sot_formula.specs.Judging.{is_ended, IsAllRead, RefusesParts}
use Rattle.sot_formula.proofs.Laying.{laid}
use Rattle.sot_formula.proofs.Sound.{sound}
use Rattle.sot_formula.proofs.Full.{full}
use Rattle.sot_formula.proofs.Meant.{meant}
use Rattle.sot_formula.proofs.Causes.{unknown_set, unknown_kept, differs_set, differs_kept, means_known, means_same, placed, there}

-- the phrase that all of a text was read as
pub text_read : (p : Tables) (bytes : List ℕ) (s : Laid) → length bytes ≤ 16777216 → IsAllRead p bytes s → (f : Phrase) × IsFormulaText bytes f
    × (s ≡ laid p f none_laid)
text_read p bytes s short read =
    let a : Ahead = ahead_from bytes 0 in
    let f = sound p 64 none_laid a.tokens (s, []) read.0 in
    let end : a ≡ record { tokens = spelled f.0 []; end = None } = ap (λ ts. record { tokens = ts; end = a.end }) f.2
    ∙ ap (λ o. record { tokens = spelled f.0 []; end = o }) read.1 in
    (f.0, record { short = short; phrase = f.1; levels = f.3; tokens = subst (Comes bytes 0) end (ahead_comes bytes 0) }, f.4)

-- each formula of a text is read
pub read_text : (p : Tables) (bytes : List ℕ) (f : Phrase) → IsFormulaText bytes f → IsAllRead p bytes (laid p f none_laid)
read_text p bytes f text =
    let b : Ahead = record { tokens = spelled f []; end = None } in
    let same : ahead_from bytes 0 ≡ b = comes_unique bytes 0 (ahead_from bytes 0) b (ahead_comes bytes 0) text.tokens in
    subst (λ (a : Ahead). (formula_at p 64 none_laid a.tokens ≡ Ok (laid p f none_laid, [])) × (a.end ≡ None)) (sym same)
    (full p 64 f none_laid [] text.phrase text.levels (refl, refl), refl)

abbrev Got : Type 0
Got = Laid × List Lexeme

one_laid : (p : Tables) (bytes : List ℕ) (s t : Laid) → IsAllRead p bytes s → IsAllRead p bytes t → s ≡ t
one_laid p bytes s t a b = ap (λ (x : Got). x.0) (ok_is (s, []) (t, []) (sym a.0 ∙ b.0))

-- a text was read, and its tokens end, or something stands behind
ended_is : (ts : List Lexeme) (end : Option LexFault) → is_ended (record { tokens = ts; end = end }) ≡ true → (ts ≡ []) × (end ≡ None)
ended_is [] None e = (refl, refl)
ended_is [] (Some f) e = absurd cc
ended_is (t ∷ ts) end e = absurd cc

not_ended_is : (ts : List Lexeme) (end : Option LexFault) → is_ended (record { tokens = ts; end = end }) ≡ false → ts ≡ [] → end ≡ None → ⊥
not_ended_is [] None e none over = absurd cc
not_ended_is [] (Some f) e none over = absurd cc
not_ended_is (t ∷ ts) end e none over = absurd cc

pub all_read : (p : Tables) (bytes : List ℕ) (before after : Ahead) (s : Laid) → before ≡ ahead_from bytes 0
    → formula_at p 64 none_laid before.tokens ≡ Ok (s, after.tokens)
    → after.end ≡ before.end → is_ended after ≡ true → IsAllRead p bytes s
all_read p bytes before after s is read stays over =
    let e = ended_is after.tokens after.end over in
    subst (λ (a : Ahead). (formula_at p 64 none_laid a.tokens ≡ Ok (s, [])) × (a.end ≡ None)) is
    (read ∙ ap (λ (ts : List Lexeme). Ok (s, ts)) e.0, sym stays ∙ e.1)

pub not_ended : (p : Tables) (bytes : List ℕ) (before after : Ahead) (s : Laid) → before ≡ ahead_from bytes 0
    → formula_at p 64 none_laid before.tokens ≡ Ok (s, after.tokens)
    → after.end ≡ before.end → is_ended after ≡ false → IsNoFormula bytes
not_ended p bytes before after s is read stays more = λ f text.
    let all = subst (λ (a : Ahead). (formula_at p 64 none_laid a.tokens ≡ Ok (laid p f none_laid, [])) × (a.end ≡ None)) (sym is) (read_text p bytes f text) in
    let same = ok_is (s, after.tokens) (laid p f none_laid, []) (sym read ∙ all.0) in
    not_ended_is after.tokens after.end more (ap (λ (x : Got). x.1) same) (stays ∙ all.1)

pub none_read : (p : Tables) (bytes : List ℕ) (before : Ahead) (f : Fault × List Lexeme) → before ≡ ahead_from bytes 0
    → formula_at p 64 none_laid before.tokens ≡ Err f → IsNoFormula bytes
none_read p bytes before f is read = λ g text.
    let all = subst (λ (a : Ahead). (formula_at p 64 none_laid a.tokens ≡ Ok (laid p g none_laid, [])) × (a.end ≡ None)) (sym is) (read_text p bytes g text) in
    (let e = sym read ∙ all.0 in absurd cc)

pub too_long : (bytes : List ℕ) → 16777216 < length bytes → IsNoFormula bytes
too_long bytes long f text = (let short = text.short in omega (arith, short, long))

-- what `read` answers
module _ (p : Tables) (rules : MeetsTableRules p) (bytes : List ℕ) (short : length bytes ≤ 16777216) where
  none_placed : ArePlaced none_laid.whats
  none_placed i w at = absurd (none-some w at)

  none_there : AreThere p none_laid.whats
  none_there i w q at looks = absurd (none-some _ at)

  pub judged_reads : (s : Laid) (ws : List What) → IsAllRead p bytes s → s.unknown ≡ false → s.differs ≡ false → ws ≡ s.whats → IsRead p bytes ws
  judged_reads s ws read known same is =
      let t = text_read p bytes s short read in
      let f = t.0 in
      let m = meant p rules f None none_laid t.1.phrase (ap (λ (x : Laid). x.unknown) (sym t.2) ∙ known) (ap (λ (x : Laid). x.differs) (sym t.2) ∙ same) in
      let whole = is ∙ ap (λ (x : Laid). x.whats) t.2 in
      let long = ap length whole in
      record {
        phrase = f;
        formula = m.formula;
        text = t.1;
        means = m.means;
        whole = subst (λ (vs : List What). IsPart vs (length vs - 1) m.formula) (sym whole) m.part;
        count = omega (arith, long, m.count);
        placed = subst ArePlaced (sym whole) (placed p rules f None none_laid t.1.phrase none_placed);
        there = subst (AreThere p) (sym whole) (there p rules f none_laid none_there);
      }

  pub judged_unknown : (s : Laid) → IsAllRead p bytes s → s.unknown ≡ true → IsUnknown p bytes
  judged_unknown s read e =
      let t = text_read p bytes s short read in
      record {
        phrase = t.0;
        text = t.1;
        unknown = ⊎_elim (λ no'. absurd (false≢true no')) (λ h. h) (unknown_set p rules t.0 none_laid (ap (λ (x : Laid). x.unknown) (sym t.2) ∙ e));
      }

  pub judged_other : (s : Laid) → IsAllRead p bytes s → s.unknown ≡ false → s.differs ≡ true → IsOfOtherScale p bytes
  judged_other s read known e =
      let t = text_read p bytes s short read in
      record {
        phrase = t.0;
        text = t.1;
        known = λ h. false≢true (sym known ∙ ap (λ (x : Laid). x.unknown) t.2 ∙ unknown_kept p rules t.0 none_laid h);
        differs = ⊎_elim (λ no'. absurd (false≢true no')) (λ h. h) (differs_set p rules t.0 none_laid (ap (λ (x : Laid). x.differs) (sym t.2) ∙ e));
      }

  pub ok_reads : {V : Type 0} (items : V → List What) (s : Laid) (r : Result V MonitorFail) → IsAllRead p bytes s
      → IfOk r (λ v. (s.unknown ≡ false) × (s.differs ≡ false) × (items v ≡ s.whats)) → IfOk r (λ v. IsRead p bytes (items v))
  ok_reads items s (Ok v) read h = judged_reads s (items v) read h.0 h.1 h.2
  ok_reads items s (Err e) read h = tt

  pub err_refuses : {V : Type 0} (s : Laid) (r : Result V MonitorFail) → IsAllRead p bytes s → IfErr r (λ fail. RefusesParts s fail)
      → IfErr r (λ fail. Refuses p bytes fail)
  err_refuses s (Ok v) read h = tt
  err_refuses s (Err fails.Form) read h = absurd h
  err_refuses s (Err fails.Unknown) read h = judged_unknown s read h
  err_refuses s (Err fails.ScaleDiffers) read h = judged_other s read h.0 h.1
  err_refuses s (Err fails.Memory) read h = absurd h

-- the causes exclude each other
pub causes_exclude : CausesExcludeEachOther
causes_exclude p bytes f g rules text_f text_g =
    let same : laid p g none_laid ≡ laid p f none_laid = one_laid p bytes (laid p g none_laid) (laid p f none_laid) (read_text p bytes g text_g)
    (read_text p bytes f text_f) in
    record {
      known = λ x m h.
          ⊎_elim (λ no'. false≢true no') (means_known p rules f x m)
          (unknown_set p rules f none_laid (ap (λ (s : Laid). s.unknown) (sym same) ∙ unknown_kept p rules g none_laid h));
      same = λ x m h.
          ⊎_elim (λ no'. false≢true no') (means_same p rules f x m)
          (differs_set p rules f none_laid (ap (λ (s : Laid). s.differs) (sym same) ∙ differs_kept p rules g none_laid h));
      unknown = λ h.
          ⊎_elim (λ no'. absurd (false≢true no')) (λ k. k)
          (unknown_set p rules g none_laid (ap (λ (s : Laid). s.unknown) same ∙ unknown_kept p rules f none_laid h));
    }
