use Rattle.std.proofs.Common.{◌≡◌, ◌++◌, ◌-◌, ap, ◌∙◌, arith, suc, ◌+◌}
use Rattle.std.specs.String.{string_bytes}
use Rattle.rand_pcg.specs.Pcg.{output_xsh_rr, multiplier_64}
use Rattle.rand_pcg.specs.Lcg.{next, state_after}
use Rattle.sot_random_words.specs.Words.{words_from}
use Rattle.sot_maker.specs.Declarations.{mission_stream, declarations_from, program_text}
use Rattle.sot_random_words.proofs.Words.{words_more}
use Rattle.sot_maker.proofs.Declared.{module_more, modules_all}
use Rattle.sot_maker.proofs.declarations.put_program.Goals as goal

pub loop-i-init : goal.loop-i-init
unfolding program_text state_after
loop-i-init c = record {
  words = c.new-words.ensures;
  text = (let e : c.args.n - 0 ≡ c.args.n = omega arith in ap (λ k. string_bytes c.args.out.now ++ declarations_from c.args.seed 0 k) e);
}

pub loop-i-preserved : goal.loop-i-preserved
loop-i-preserved c =
    let k = c.loop-i.invariant in
    let e : suc c.loop-i.i ≡ c.loop-i.i + 1 = omega arith in
    record {
      words =
          ap (λ s. s.1) c.next_word.ensures ∙ ap (next 64 multiplier_64) k.words ∙ words_more c.args.seed mission_stream c.loop-i.i
          ∙ ap (words_from c.args.seed mission_stream) e;
      text =
          module_more c.args.seed c.loop-i.i c.args.n c.next_word.result _ _ _ c.loop-i-test.true
          (ap (λ s. s.0) c.next_word.ensures ∙ ap (λ g. output_xsh_rr g.state) k.words) c.in_ok-put_declarations.ensures k.text;
    }

pub returns : goal.returns
returns c = modules_all c.args.seed c.loop-i.i c.args.n _ _ c.loop-i-test.false c.loop-i.invariant.text
