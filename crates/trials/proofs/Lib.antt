mod Pushing
