-- `census::answer` is safe and ends. There is room for any text, so what it hands over is all that is printed
-- (`put_first`).
use Rattle.text.proofs.Putting.{put_first}
use Rattle.census.proofs.answer.Goals as goal

pub write_reply-requires : goal.write_reply-requires
write_reply-requires c =
    let put = c.answer_input-made.ensures in
    put_first put.puts put.upper_bound
