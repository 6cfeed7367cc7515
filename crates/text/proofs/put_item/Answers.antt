-- `text::put_item` meets its contract: a space, then the digits.
use Rattle.text.proofs.Putting.{put_plain}
use Rattle.text.proofs.put_item.Goals as goal

pub returns-clause-puts : goal.returns-clause-puts
returns-clause-puts c = put_plain c.args.n c.put-p.ensures c.put_number.ensures.puts
