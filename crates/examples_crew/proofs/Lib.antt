mod Sent
mod TwoSenders
