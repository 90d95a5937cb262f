use Rattle.std.proofs.Common.{inl, refl, sym, subst}
use Rattle.sot_syntax_tree.specs.TreeViews.{program_view}
use Rattle.sot_certified_text.specs.ReadAgain.{IsCertificateOf}
use Rattle.sot_commands.specs.Answers.{SpellsAccepted}
use Rattle.sot_commands.specs.Steps.{IsWritten}
use Rattle.sot_commands.proofs.certify.certified.Goals as goal

pub read_back-requires-clause-written : goal.read_back-requires-clause-written
read_back-requires-clause-written g c κs within =
    let has : IsCertificateOf c.requires.spelled.0 (program_view c.args.program.now) c.args.tables.now c.args.cert.now =
    record { spelled = c.requires.spelled.1; resolved = c.requires.resolved; made = c.requires.made; fits = c.requires.fits } in
    subst IsWritten (sym c.deref.ensures.value)
    (c.requires.spelled.0, program_view c.args.program.now, c.args.tables.now, c.args.cert.now, has, c.in_ok-text.ensures.text)

pub returns : goal.returns
returns g c =
    inl (
      refl,
      (c.args.cert.now, c.requires.made, c.requires.fits, c.in_ok-text.ensures.text),
      subst SpellsAccepted c.deref.ensures.value c.in_ok-read_back.ensures,
    )
