use Rattle.replica_feed.proofs.FrameWords.{request_of, frame_of, frame_one}
use Rattle.replica_feed.proofs.laws.frames_read_back.Goals as goal

pub returns : goal.returns
returns c = record { request = request_of; frame = frame_of; one = frame_one }
