-- What is said without a flight does not begin as a trace does.
use Rattle.std.proofs.Common.{◌≡◌, ℕ, List, ◌++◌, Result, Ok, Err, get_or, refl, sym, ap, ◌∙◌, arith}
use Rattle.std.specs.Prelude.{IfOk, ◌≢◌}
use Rattle.std.specs.declared.alloc.AllocError.{AllocError}
use Rattle.sot_text.specs.declared.token.LexFault.TheVariants.{BadByte, NameLong, LiteralWide}
use Rattle.sot_parser.specs.declared.syntax.Syntax.TheVariants.{Lex, Token, Deep}
use Rattle.sot_lang.specs.Tables.{Tables}
use Rattle.sot_tube.specs.Refusals.{Refusal}
use Rattle.sot_flight.specs.Plans.{Plan}
use Rattle.sot_trace.specs.Lines.{header}
use Rattle.sot_formula.specs.declared.fail.MonitorFail.{MonitorFail}
use Rattle.sot_formula.specs.declared.fail.MonitorFail.TheVariants as monitor_fails
use Rattle.sot_report.specs.declared.fault.Fault.{Fault}
use Rattle.sot_report.specs.declared.fault.Fault.TheVariants as faults
use Rattle.sot_report.specs.FaultTexts.{fault_text}
use Rattle.sot_report.specs.RefusalTexts.{refusal_text}
use Rattle.sot_cli.specs.declared.answer.Answer.{Answer}
use Rattle.sot_commands.specs.Answers.{IsOutsideOf}
use Rattle.sot_commands.specs.Guests.{IsNoTrace}
use Rattle.sot_commands.specs.WatchTexts.{formula_text}

-- a trace begins with `s`
no_trace : (text other : List ℕ) (b : ℕ) → text ≡ other → get_or other 0 0 ≡ b → b ≢ 115 → IsNoTrace text
no_trace text other b is head differs rest e =
    let first : get_or other 0 0 ≡ get_or (header ++ rest) 0 0 = ap (λ (l : List ℕ). get_or l 0 0) (sym is ∙ e) in
    differs (sym head ∙ first)

-- a refusal with `r`
refusal_head : (t : Tables) (v : Refusal) → get_or (refusal_text t v) 0 0 ≡ 114
refusal_head t v = refl

-- and a fault with `f`
fault_head : (f : Fault) → get_or (fault_text f) 0 0 ≡ 102
fault_head (faults.Section f) = refl
fault_head (faults.Syntax (Lex (BadByte at))) = refl
fault_head (faults.Syntax (Lex (NameLong at))) = refl
fault_head (faults.Syntax (Lex (LiteralWide at))) = refl
fault_head (faults.Syntax (Token at)) = refl
fault_head (faults.Syntax (Deep at)) = refl
fault_head (faults.Typing f) = refl
fault_head (faults.Cert f) = refl
fault_head (faults.Flight f) = refl

formula_no_trace : (text : List ℕ) (fail : MonitorFail) → fail ≢ monitor_fails.Memory → text ≡ formula_text fail → IsNoTrace text
formula_no_trace text monitor_fails.Form enough is = no_trace text (formula_text monitor_fails.Form) 102 is refl (λ e. absurd (omega (arith, e)))
formula_no_trace text monitor_fails.Unknown enough is = no_trace text (formula_text monitor_fails.Unknown) 102 is refl (λ e. absurd (omega (arith, e)))
formula_no_trace text monitor_fails.ScaleDiffers enough is =
    no_trace text (formula_text monitor_fails.ScaleDiffers) 102 is refl (λ e. absurd (omega (arith, e)))
formula_no_trace text monitor_fails.Memory enough is = absurd (enough refl)

pub outside_no_trace : (t : Tables) (f : Plan) (text : List ℕ) → IsOutsideOf t f text → IsNoTrace text
outside_no_trace t f text (k, first, said) = no_trace text _ 114 said refl (λ e. absurd (omega (arith, e)))

pub outside_traces_none : (r : Result Answer AllocError) (t : Tables) (f : Plan) → IfOk r (λ a. IsOutsideOf t f a.text.items)
    → IfOk r (λ a. IsNoTrace a.text.items)
outside_traces_none (Ok a) t f outside = outside_no_trace t f a.text.items outside
outside_traces_none (Err e) t f outside = tt

pub refusal_traces_none : (r : Result Answer AllocError) (t : Tables) (v : Refusal) → IfOk r (λ a. a.text.items ≡ refusal_text t v)
    → IfOk r (λ a. IsNoTrace a.text.items)
refusal_traces_none (Ok a) t v said = no_trace a.text.items (refusal_text t v) 114 said (refusal_head t v) (λ e. absurd (omega (arith, e)))
refusal_traces_none (Err e) t v said = tt

pub fault_traces_none : (r : Result Answer AllocError) (f : Fault) → IfOk r (λ a. a.text.items ≡ fault_text f) → IfOk r (λ a. IsNoTrace a.text.items)
fault_traces_none (Ok a) f said = no_trace a.text.items (fault_text f) 102 said (fault_head f) (λ e. absurd (omega (arith, e)))
fault_traces_none (Err e) f said = tt

pub formula_traces_none : (r : Result Answer AllocError) (fail : MonitorFail) → IfOk r (λ a. (fail ≢ monitor_fails.Memory) × (a.text.items ≡ formula_text fail))
    → IfOk r (λ a. IsNoTrace a.text.items)
formula_traces_none (Ok a) fail (enough, said) = formula_no_trace a.text.items fail enough said
formula_traces_none (Err e) fail said = tt
