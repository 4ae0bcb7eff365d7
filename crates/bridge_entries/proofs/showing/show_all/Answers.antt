-- One record more is shown, until none is left or fits.
use Rattle.std.proofs.Common.{◌≡◌, ℕ, ◌-◌, ◌++◌, List, length, refl, sym, ap, ◌∙◌, arith, take, drop, length-drop}
use Rattle.std.proofs.lemmas.List.{take_rest}
use Rattle.bridge_entries.proofs.ShownLemmas.{IsMore, shows_none, shows_more, shown_all}
use Rattle.bridge_entries.specs.inside.Records.{next_fitting, record_bytes}
use Rattle.bridge_entries.proofs.showing.show_all.Goals as goal

pub loop-found-init : goal.loop-found-init
loop-found-init c = record {
  inside = omega arith;
  long = refl;
  shows = shows_none c.args.form c.args.size c.args.position c.args.given.now (record { bytes = c.new.result; cookie = c.args.position; left = c.args.size }) c.new.ensures.items refl refl;
}

pub loop-found-preserved : goal.loop-found-preserved
loop-found-preserved c =
    let within = c.in-Some.ensures.within in
    let rest_is : take (length c.args.given.now - c.loop-found.place) (drop c.loop-found.place c.args.given.now) ≡ drop c.loop-found.place c.args.given.now = take_rest c.args.given.now c.loop-found.place in
    let long = ap length rest_is in
    let more : IsMore c.args.form c.loop-found.shown c.show.new.shown c.in-Some.found (drop c.loop-found.place c.args.given.now) =
    record {
      bytes_more = c.in_ok-show.ensures.bytes ∙ ap (λ (l : List ℕ). c.loop-found.shown.bytes.items ++ record_bytes c.args.form c.in-Some.found (take c.in-Some.found.name (drop 19 l))) rest_is;
      cookie = c.in_ok-show.ensures.cookie;
      left = c.in_ok-show.ensures.left;
    } in
    record {
      inside = let less = within.inside in omega (arith, less, long, length-drop c.loop-found.place c.args.given.now);
      long = omega arith;
      shows = shows_more c.args.form c.args.size c.args.position c.loop-found.place c.args.given.now c.loop-found.shown c.show.new.shown c.in-Some.found c.loop-found.invariant.shows
          (c.in-Some.ensures.told ∙ ap (next_fitting c.args.form c.loop-found.shown.left) rest_is) more;
    }

pub returns : goal.returns
returns c = λ entries listed is.
    shown_all c.args.form c.args.size c.args.position c.loop-found.place c.args.given.now c.loop-found.shown entries (c.loop-found.invariant.shows entries listed is)
    (sym c.in_default.is ∙ c.next_fitting.ensures.told ∙ ap (next_fitting c.args.form c.loop-found.shown.left) (take_rest c.args.given.now c.loop-found.place))
