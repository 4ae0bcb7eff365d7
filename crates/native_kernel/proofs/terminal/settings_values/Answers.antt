use Rattle.native_kernel.proofs.TerminalLemmas.{kept, values_are}
use Rattle.native_kernel.proofs.terminal.settings_values.Goals as goal

pub returns : goal.returns
returns c =
    values_are c.args.settings
    _ _ _ _ _ _ _ _ _ _ _ _ _ _ _ _ _ _ _ _ _ _
    (kept c.from.result c.args.settings.input c.from.ensures c.from.type_inv)
    (kept c.from-2.result c.args.settings.output c.from-2.ensures c.from-2.type_inv)
    (kept c.from-3.result c.args.settings.control c.from-3.ensures c.from-3.type_inv)
    (kept c.from-4.result c.args.settings.local c.from-4.ensures c.from-4.type_inv)
    (kept c.from-5.result c.args.settings.line c.from-5.ensures c.from-5.type_inv)
    (kept c.from-6.result c.args.settings.characters.intr c.from-6.ensures c.from-6.type_inv)
    (kept c.from-7.result c.args.settings.characters.quit c.from-7.ensures c.from-7.type_inv)
    (kept c.from-8.result c.args.settings.characters.erase c.from-8.ensures c.from-8.type_inv)
    (kept c.from-9.result c.args.settings.characters.kill c.from-9.ensures c.from-9.type_inv)
    (kept c.from-10.result c.args.settings.characters.eof c.from-10.ensures c.from-10.type_inv)
    (kept c.from-11.result c.args.settings.characters.time c.from-11.ensures c.from-11.type_inv)
    (kept c.from-12.result c.args.settings.characters.min c.from-12.ensures c.from-12.type_inv)
    (kept c.from-13.result c.args.settings.characters.swtc c.from-13.ensures c.from-13.type_inv)
    (kept c.from-14.result c.args.settings.characters.start c.from-14.ensures c.from-14.type_inv)
    (kept c.from-15.result c.args.settings.characters.stop c.from-15.ensures c.from-15.type_inv)
    (kept c.from-16.result c.args.settings.characters.susp c.from-16.ensures c.from-16.type_inv)
    (kept c.from-17.result c.args.settings.characters.eol c.from-17.ensures c.from-17.type_inv)
    (kept c.from-18.result c.args.settings.characters.reprint c.from-18.ensures c.from-18.type_inv)
    (kept c.from-19.result c.args.settings.characters.discard c.from-19.ensures c.from-19.type_inv)
    (kept c.from-20.result c.args.settings.characters.werase c.from-20.ensures c.from-20.type_inv)
    (kept c.from-21.result c.args.settings.characters.lnext c.from-21.ensures c.from-21.type_inv)
    (kept c.from-22.result c.args.settings.characters.eol2 c.from-22.ensures c.from-22.type_inv)
