use Rattle.udp.proofs.UsedPort.{read_as_sent}
use Rattle.udp.proofs.laws.notices_are_read_as_sent.Goals as goal

pub returns : goal.returns
returns c = read_as_sent c.texts_are_told_apart.ensures.one_text
