use Rattle.schedule.proofs.Feeds.{whole}
use Rattle.schedule.proofs.lines.Lines.new.Goals as goal

pub returns-clause-whole : goal.returns-clause-whole
returns-clause-whole c = whole c.args.text.now
